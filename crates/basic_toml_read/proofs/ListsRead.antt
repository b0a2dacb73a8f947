-- The list of a text: the rows before its first header, a section by its header, and the sections one by one.
use Rattle.basic_toml_read.proofs.Common.{◌≡◌, ℕ, ◌+◌, ◌<◌, ◌≤◌, max, List, [], ◌∷◌, ◌++◌, length, refl, ap, sym, ◌∙◌}
use Rattle.basic_toml_read.proofs.Common.{arith, Option, Some, None, Ok, Err, ◌*◌, append_assoc, append-nil, map, suc}
use Rattle.basic_toml_read.proofs.Common.{◌==◌, true, rules, IsCharBoundary, length-map, nil_from_length, nesting_limit}
use Rattle.basic_toml_read.proofs.Common.{Text, text_at, folded, is_comment, after_blanks, Rows, no_rows, row, Section}
use Rattle.basic_toml_read.proofs.Common.{Key, and_then, with_root, IsRows, IsHeader, EndsLine, rows_level}
use Rattle.basic_toml_read.proofs.Common.{highest_level, section_list_of, end_of, line_end_at, HoleInSections, DeepRows}
use Rattle.basic_toml_read.proofs.Common.{Stop, StopsInside, Gathered, rows_of, sections_of, header_of, Lines, no_lines}
use Rattle.basic_toml_read.proofs.Common.{and_lines, lines_of, lines_view, Misses, AreRowsRead, NextAt, PassesGaps}
use Rattle.basic_toml_read.proofs.Common.{IsFrom, sections_from, EndsLineAt, IsStop, LeadsTo, in_rows, in_sections}
use Rattle.basic_toml_read.proofs.Common.{key_of, then_some, rows_read, header_read, line_end_read, vec_len}
use Rattle.basic_toml_grammar.specs.DeepStops as deep
use Rattle.basic_toml_grammar.specs.Reader as reader
use Rattle.basic_toml_grammar.proofs.Nesting.WithinTheLimit as within
use Rattle.basic_toml_tokens.specs.Text.{start_of}
use Rattle.basic_toml_grammar.specs.Levels.{section_level}
use Rattle.basic_toml_grammar.specs.Holes.{HoleInText}
use Rattle.basic_toml_read.specs.Lists.{Header, section_seen, IsSectionRead, IsHeaderRead}
use Rattle.basic_toml_read.specs.SectionsRead.{onto, ListSoFar, IsList, left_after}
use Rattle.basic_toml_read.specs.StopsReached.{in_text, IfDeepSection, InSectionHole}
use Rattle.std.specs.Option.{IfSome}
use Rattle.basic_toml_read.proofs.StandsIn.{stops_on, at_deep, then_in}
use Rattle.basic_toml_read.proofs.RowsRead.{RowsAnswered}
use Rattle.basic_toml_read.proofs.NothingTooDeep.{root_rows, after_header, its_rows}
use Rattle.basic_toml_read.proofs.EnoughSteps.{list_is, sections_is}
use Rattle.basic_toml_read.proofs.GoesOn.{misses_none, misses_on, then_from}
use Rattle.std.proofs.lemmas.Bool.{eqb-true}

root_onto : (rs : Rows) (headed : List Section) → with_root rs headed ≡ with_root rs [] ++ headed
root_onto no_rows headed = refl
root_onto (row keys p v rs) headed = refl

root_first : (rs : Rows) (o : Option (List Section))
    → and_then o (λ headed. Some (with_root rs headed)) ≡ onto (with_root rs []) o
unfolding onto
root_first rs o = grind (arith, root_onto rs)

root_level : (rs : Rows) → (rows_level 1 rs ≤ highest_level (with_root rs []))
    × (highest_level (with_root rs []) ≤ max 1 (rows_level 1 rs))
root_level no_rows = (omega arith, omega arith)
root_level (row keys p v rs) = (omega arith, omega arith)

pub rows_here : (text : Text) (r : Rows × Text) → rows_of text ≡ Some r → IsRows is_comment text r.0 r.1
unfolding rows_of
rows_here text r e = rows_read (4 * length text + 3) text r e

-- what is gathered where nothing was
pub added_lines : {bytes : List ℕ} {start level : ℕ} {old new : Gathered} {next : Option ℕ}
    (r : AreRowsRead bytes start level old new next) → lines_of old ≡ no_lines → lines_of new ≡ r.added
added_lines r empty = r.pushed ∙ ap (λ (l : Lines). and_lines l r.added) empty

pub highest_onto : (front sections : List Section)
    → highest_level (front ++ sections) ≡ max (highest_level front) (highest_level sections)
highest_onto [] sections = omega arith
highest_onto (s ∷ front) sections = omega (arith, highest_onto front sections)

-- the rows before the first header
module _ (bytes : List ℕ) {start : ℕ} (start_is : start ≡ start_of bytes) where
  list_by : section_list_of (folded bytes)
      ≡ and_then (rows_of (text_at bytes start))
      (λ rows. and_then (sections_of rows.1) (λ headed. Some (with_root rows.0 headed)))
  list_by = rw start_is (list_is (folded bytes))

  -- where no row is, nothing is gathered
  pub root_none : {old mid : Gathered} {next : Option ℕ} → lines_of old ≡ no_lines
      → AreRowsRead bytes start 1 old mid next → (vec_len mid.rows == 0) ≡ true → lines_of mid ≡ no_lines
  root_none {mid = mid} empty r none =
      let added = added_lines r empty in
      let nil = nil_from_length mid.rows.items (omega (arith, eqb-true _ _ none, mid.rows.ok.0)) in
      let no_rows : r.added.rows ≡ [] = ap (λ (l : Lines). l.rows) (sym added) ∙ nil in
      added ∙ r.some (rw no_rows refl)

  pub root_there : {old mid : Gathered} {next : Option ℕ} → lines_of old ≡ no_lines
      → AreRowsRead bytes start 1 old mid next → PassesGaps bytes start old mid (Ok next)
      → ListSoFar bytes next (with_root (lines_view (lines_of mid)) [])
  root_there {mid = mid} empty r passed =
      let rows : IsRows is_comment (folded bytes) (lines_view r.added) r.rest =
      rw (← start_is) (rows_here (text_at bytes start) (lines_view r.added, r.rest) r.is) in
      let same : with_root (lines_view r.added) [] ≡ with_root (lines_view (lines_of mid)) [] =
      ap (λ (l : Lines). with_root (lines_view l) []) (sym (added_lines r empty)) in
      record {
        rest = r.rest;
        ends = r.ends;
        told = rw (← same) (list_by ∙ then_from _ r.is ∙ root_first (lines_view r.added) (sections_of r.rest));
        limit = omega (arith, ap highest_level same, (root_level (lines_view r.added)).1, r.limit);
        gaps = λ g.
            let there = passed (rw start_is g) in
            let none = there.0 in
            (cc, ap (λ (l : Lines). with_root (lines_view l) []) (there.1 ∙ empty));
        leads = λ p d. deep.headed rows r.limit d;
        backs = λ p d. within.past_root rows r.limit d;
        holes = record { on = λ h at d. HoleInText.headed rows d; same = λ at d. refl };
      }

  -- where they stop, the text stops to be one
  pub root_stops : (old mid : Gathered) (stop : Stop) → RowsAnswered bytes start 1 old mid (Err stop)
      → IsStop bytes stop
  root_stops old mid stop e = record {
    missed = misses_on stop.why (rows_of (text_at bytes start)) _ _ _ list_by
        (λ rows y f h. let (headed, headed_is, same) = then_some (sections_of rows.1) _ y f in
        grind (arith, root_onto rows.0 headed, highest_onto (with_root rows.0 []) headed, (root_level rows.0).0))
        e.read;
    inside = e.inside;
    more = λ g. let passed = (e.gaps (rw start_is g)).0 in cc;
    deep = at_deep stop.why stop.at _ e.read (λ p d. deep.root (rw start_is at d))
        (λ none p d. rw start_is (root_rows (rw start_is at none) d)) e.deep;
    hole =
        let holes : LeadsTo (in_rows (text_at bytes start)) (in_text (folded bytes)) =
        rw start_is (record { on = λ h at d. HoleInText.root d; same = λ at d. refl }) in
        stops_on holes stop.why (text_at bytes stop.at) e.hole;
  }

-- the bracket where rows end
pub bracket_stands : (bytes : List ℕ) (rest : Text) (next : Option ℕ) → NextAt bytes rest next
    → IfSome next (λ at. IsCharBoundary bytes at)
bracket_stands bytes rest None e = tt
bracket_stands bytes rest (Some at) e = e.4

-- what is known of a stop in a section
abbrev pub SectionStops : List ℕ → ℕ → Stop → Type 0
SectionStops bytes at stop = record {
  read : Misses stop.why (and_then (header_of (text_at bytes at)) sections_from)
      (λ sections. nesting_limit < highest_level sections);
  inside : StopsInside bytes stop;
  deep : IfDeepSection {A = Unit {0}} bytes at (Err stop);
  hole : InSectionHole {A = Unit {0}} bytes at (Err stop);
}

-- a section, by its header
header_there : (text : Text) (h : reader.Headed) → header_of text ≡ Some h
    → IsHeader text h.offset h.keys h.is_array h.rest
unfolding header_of
header_there text h e = header_read (suc (length text)) text h e

module _ {bytes : List ℕ} {at : ℕ} {h : Header} (read : IsHeaderRead bytes at h) where
  abbrev pub keys_here : List Key
  keys_here = map key_of h.keys

  abbrev pub made : Rows → Section
  made rs = record { at = h.at; header = keys_here; is_array = h.is_array; rows = rs }

  by_line : and_then (header_of (text_at bytes at)) sections_from
      ≡ and_then (line_end_at (text_at bytes h.end))
      (λ next. and_then (rows_of next)
      (λ rows. and_then (sections_of rows.1) (λ sections. Some (made rows.0 ∷ sections))))
  by_line = ap (λ o. and_then o sections_from) read.is

  -- the header, at the front of its line
  header_is : (text : Text) → text_at bytes at ≡ after_blanks text
      → IsHeader (after_blanks text) h.at keys_here h.is_array (text_at bytes h.end)
  header_is text same = rw (← same) (header_there (text_at bytes at) _ read.is)

  keys_low : length keys_here + 1 ≤ nesting_limit
  keys_low = omega (arith, read.limit, length-map h.keys key_of)

  -- a line that goes on after it
  pub line_stops : (stop : Stop) → EndsLineAt bytes h.end (Err stop) → StopsInside bytes stop
      → SectionStops bytes at stop
  line_stops stop c inside = record {
    read = misses_none stop.why (and_then (header_of (text_at bytes at)) sections_from) _ (by_line ∙ then_from _ c.0);
    inside = inside;
    deep = λ text same. rw c.1 (λ p d. after_header (header_is text same) keys_low c.0 d);
    hole = λ text same some. rw c.1 (
      rw c.2 (HoleInSections.after_header (header_is text same)),
      ap end_of c.2 ∙ c.0,
    );
  }

  module _ (line : ℕ) (ended : EndsLineAt bytes h.end (Ok line)) where
    by_rows : and_then (header_of (text_at bytes at)) sections_from
        ≡ and_then (rows_of (text_at bytes line))
        (λ rows. and_then (sections_of rows.1) (λ sections. Some (made rows.0 ∷ sections)))
    by_rows = by_line ∙ then_from _ ended.0

    level_here : length keys_here ≡ length h.keys
    level_here = length-map h.keys key_of

    over : EndsLine is_comment (text_at bytes h.end) (text_at bytes line)
    over = line_end_read (text_at bytes h.end) (text_at bytes line) ended.0

    -- a stop in its rows
    pub rows_stop : (old mid : Gathered) (stop : Stop)
        → RowsAnswered bytes line (length h.keys + 1) old mid (Err stop) → SectionStops bytes at stop
    rows_stop old mid stop e = record {
      read = misses_on stop.why (rows_of (text_at bytes line)) _ _ _ by_rows
          (λ rows y g high. grind (arith, g, high, level_here)) e.read;
      inside = e.inside;
      deep = λ text same. at_deep stop.why stop.at _ e.read
          (λ p (d : DeepRows nesting_limit (length h.keys + 1) (text_at bytes line) p).
          deep.this_section (deep.rows (header_is text same) keys_low over (rw level_here d)))
          (λ none p d. rw (← level_here) (its_rows (header_is text same) keys_low over none d)) e.deep;
      hole = λ text same some. stops_on {outer = in_sections text}
          (record { on = λ p there d. HoleInSections.in_rows (header_is text same) over d; same = λ there d. refl })
          stop.why (text_at bytes stop.at) e.hole;
    }

    -- its rows
    pub section_there : {old mid : Gathered} {next : Option ℕ} → lines_of old ≡ no_lines
        → AreRowsRead bytes line (length h.keys + 1) old mid next → IsSectionRead bytes at mid h next
    section_there {old = old} {mid = mid} {next = next} empty r =
        let view : made (lines_view r.added) ≡ section_seen h (lines_of mid) =
        ap (λ (l : Lines). made (lines_view l)) (sym (added_lines r empty)) in
        let rows = rows_here (text_at bytes line) (lines_view r.added, r.rest) r.is in
        let within_here : section_level (made (lines_view r.added)) ≤ nesting_limit =
        omega (arith, r.limit, read.limit, level_here, ap (λ n. rows_level (n + 1) (lines_view r.added)) level_here) in
        record {
          rest = r.rest;
          is = rw (← view) (by_rows ∙ then_from _ r.is);
          ends = r.ends;
          from = further next r.from;
          leads = λ text here p d. deep.later_section (header_is text here) over rows within_here d;
          backs = λ text here p d. within.past_section (header_is text here) over rows within_here d;
          holes = λ text here. record {
            on = λ p there d. HoleInSections.later_section (header_is text here) over rows d;
            same = λ there d. refl;
          };
          limit = omega (arith, ap section_level view, within_here);
        }
      where
        further : (next : Option ℕ) → IsFrom line next → IsFrom (at + 1) next
        further None h' = tt
        further (Some p) h' = omega (arith, read.later, ended.2)

-- sections one after another
onto_more : (front : List Section) (s : Section) (o : Option (List Section))
    → onto front (and_then o (λ sections. Some (s ∷ sections))) ≡ onto (front ++ s ∷ []) o
unfolding onto
onto_more front s o = grind (arith, append_assoc front (s ∷ []))

-- from a header on
module _ (bytes : List ℕ) (at : ℕ) (list : List Section) (s : ListSoFar bytes (Some at) list) where
  list_from : section_list_of (folded bytes) ≡ onto list (and_then (header_of (text_at bytes at)) sections_from)
  list_from =
      s.told ∙ ap (onto list) (rw (s.ends.3, s.ends.2) (sections_is s.ends.0 s.ends.1))

  -- a section more
  pub list_more : (new : Gathered) (h : Header) (next : Option ℕ) → IsSectionRead bytes at new h next
      → ListSoFar bytes next (list ++ section_seen h (lines_of new) ∷ [])
  list_more new h next r =
      let joined = onto_more list (section_seen h (lines_of new)) (sections_of r.rest) in
      let told = list_from ∙ ap (onto list) r.is ∙ joined in
      let level = highest_onto list (section_seen h (lines_of new) ∷ []) in
      let on = r.holes s.rest s.ends.3 in
      let holes = then_in on.on on.same s.holes in
      search (rules, s.gaps, s.leads, s.backs, r.leads s.rest s.ends.3, r.backs s.rest s.ends.3)

  -- where none is read, the text stops to be one
  pub list_stops : (stop : Stop) → SectionStops bytes at stop → IsStop bytes stop
  unfolding onto
  list_stops stop e = record {
    missed = misses_on stop.why (and_then (header_of (text_at bytes at)) sections_from) _ _ _ list_from
        (λ headed y f high. grind (arith, f, high, highest_onto list headed)) e.read;
    inside = e.inside;
    more = λ g. let none = (s.gaps g).0 in cc;
    deep = at_deep stop.why stop.at _ e.read s.leads (λ none. s.backs) (e.deep s.rest s.ends.3);
    hole = stops_on s.holes stop.why (text_at bytes stop.at)
        (e.hole s.rest s.ends.3 s.ends.5);
  }

-- what is left behind a place is no more than what is left from an offset before it
pub left_from : (bytes : List ℕ) (from : ℕ) (next : Option ℕ) (rest : Text) → from ≤ length bytes + 1
    → IsFrom from next → NextAt bytes rest next → left_after bytes next + from < length bytes + 2
left_from bytes from None rest h f n = omega arith
left_from bytes from (Some p) rest h f n = omega (arith, n.4.0)

-- the end of the text
pub list_over : (bytes : List ℕ) (list : List Section) → ListSoFar bytes None list → IsList bytes list
unfolding onto sections_of
list_over bytes list s = record {
  is = s.told ∙ ap (λ t. onto list (sections_of t)) s.ends ∙ ap (λ (l : List Section). Some l) (append-nil list);
  limit = s.limit;
}
