-- Rows one after another, and the lines that stand for them.
use Rattle.basic_toml_read.proofs.Common.{◌+◌, ◌*◌, length, ◌≡◌, ℕ, ◌≤◌, List, max, refl, ap, sym, ◌∙◌, arith}
use Rattle.basic_toml_read.proofs.Common.{nesting_limit, text_at, is_comment, IsRow, row_read, row_of, Rows, no_rows}
use Rattle.basic_toml_read.proofs.Common.{row, rows_level, Assigned, Gathered, Lines, no_lines, and_lines, lines_of}
use Rattle.basic_toml_read.proofs.Common.{lines_view, IsRowRead}
use Rattle.basic_toml_read.proofs.ViewsSeen.{lines_assoc, lines_none}

-- a row that was found, before others
abbrev pub row_first : Assigned → Rows → Rows
row_first r rs = row r.keys r.offset r.value rs

-- a row that is read stands there
pub row_stands : {bytes : List ℕ} {at level end : ℕ} {old new : Gathered} (r : IsRowRead bytes at level old new end)
    → IsRow is_comment (text_at bytes at) r.found.keys r.found.offset r.found.value (text_at bytes end)
unfolding row_of
row_stands {bytes = bytes} {at = at} r =
    rw (← r.rest) (row_read (4 * length (text_at bytes at) + 1) (text_at bytes at) r.found r.is)

-- lines that were gathered, and how they join rows after them: each of their rows has its own parents, and they are
-- within the limit
pub record LinesSoFar (level : ℕ) (old new : Gathered) (got : Lines) : Type 0 where
  pub join : Rows → Rows
  pub seen : (rest : Lines) → lines_view (and_lines got rest) ≡ join (lines_view rest)
  pub kept : (rs : Rows) → join rs ≡ no_rows → rs ≡ no_rows
  pub high : (rs : Rows) → rows_level level (join rs) ≡ max (rows_level level (lines_view got)) (rows_level level rs)
  pub pushed : lines_of new ≡ and_lines (lines_of old) got
  pub some : lines_view got ≡ no_rows → got ≡ no_lines
  pub elements : new.elements.items ≡ old.elements.items
  pub limit : rows_level level (lines_view got) ≤ nesting_limit

unfoldable pub lines_start : (level : ℕ) (old : Gathered) → LinesSoFar level old old no_lines
lines_start level old = record {
  join = λ rs. rs;
  seen = λ rest. refl;
  kept = λ rs none. none;
  high = λ rs. omega arith;
  pushed = sym (lines_none (lines_of old));
  some = λ _. refl;
  elements = refl;
  limit = omega arith;
}

module _ {level : ℕ} {old mid : Gathered} {got : Lines} (s : LinesSoFar level old mid got) where
  pub lines_alone : s.join no_rows ≡ lines_view got
  lines_alone = sym (s.seen no_lines) ∙ ap lines_view (lines_none got)

  -- a row more
  module _ {bytes : List ℕ} {at end : ℕ} {new : Gathered} (r : IsRowRead bytes at level mid new end) where
    pub view_more : lines_view (and_lines got r.added) ≡ s.join (row_first r.found no_rows)
    view_more = s.seen r.added ∙ ap s.join (ap lines_view (sym (lines_none r.added)) ∙ r.seen no_lines)

    unfoldable pub lines_more : LinesSoFar level old new (and_lines got r.added)
    lines_more =
        let one = s.high (row_first r.found no_rows) in
        let view = ap (rows_level level) view_more in
        record {
          join = λ rs. s.join (row_first r.found rs);
          seen = λ rest. ap lines_view (lines_assoc got r.added rest) ∙ s.seen (and_lines r.added rest)
              ∙ ap s.join (r.seen rest);
          kept = λ rs none. let z = s.kept (row_first r.found rs) none in cc;
          high = λ rs. omega (arith, view, one, s.high (row_first r.found rs));
          pushed = r.pushed ∙ ap (λ (l : Lines). and_lines l r.added) s.pushed ∙ lines_assoc (lines_of old) got r.added;
          some = λ none. let z = s.kept (row_first r.found no_rows) (sym view_more ∙ none) in cc;
          elements = r.elements ∙ s.elements;
          limit = omega (arith, view, one, s.limit, r.limit);
        }
