-- The rows of a section, line by line.
use Rattle.basic_toml_read.proofs.Common.{inr, ◌≡◌, ℕ, ◌<◌, ◌≤◌, List, [], ◌∷◌, length, refl, ap, sym, ◌∙◌, arith, true}
use Rattle.basic_toml_read.proofs.Common.{Option, Some, None, Result, Ok, Err, IfErr, rules, IsUtf8, IsCharBoundary}
use Rattle.basic_toml_read.proofs.Common.{nesting_limit, Text, text_at, is_comment, after_blanks, IsPunctuationEnd}
use Rattle.basic_toml_read.proofs.Common.{over_at_end, text_end, Rows, no_rows, and_then, EndsLine, IsRow, rows_level}
use Rattle.basic_toml_read.proofs.Common.{char_at, key_at, if_found, end_of, line_end_at, DeepRows, DeepRow, Hole, Stop}
use Rattle.basic_toml_read.proofs.Common.{Newline, StopsInside, Gathered, rows_of, row_of, Leaves, row_level, Lines}
use Rattle.basic_toml_read.proofs.Common.{and_lines, lines_of, IsRowRead, IsFrom, NextAt, AreRowsRead, EndsLineAt}
use Rattle.basic_toml_read.proofs.Common.{IsGap, PassesGaps, IfDeep, InHole, LeadsTo, in_row, in_rows, then_some}
use Rattle.basic_toml_read.proofs.Common.{line_end_read}
use Rattle.basic_toml_grammar.proofs.Nesting.WithinTheLimit as within
use Rattle.std.proofs.Common.{is_some}
use Rattle.basic_toml_grammar.specs.DeepStops.{this_row, after_empty, later_row}
use Rattle.basic_toml_grammar.specs.Holes.{HoleInRows}
use Rattle.basic_toml_read.specs.AtPlace.{EndsAt}
use Rattle.basic_toml_read.specs.Lists.{ReadsRows}
use Rattle.basic_toml_read.proofs.NothingTooDeep.{line_row}
use Rattle.basic_toml_read.proofs.EnoughSteps.{after_row, keys_is, row_is, rows_is}
use Rattle.basic_toml_read.proofs.LeftAfter.{sign_there, sign_missing, gap_past_line, gap_over, gap_ends_line}
use Rattle.basic_toml_read.proofs.LeftAfter.{gap_has_no_bracket, line_of}
use Rattle.basic_toml_read.proofs.GoesOn.{after, after_from, after_one, found_from, misses_after, misses_none}
use Rattle.basic_toml_read.proofs.GoesOn.{then_from}
use Rattle.basic_toml_read.proofs.StandsIn.{SameDeep, at_deep, then_deep, then_in, StopIn, stops_on}
use Rattle.basic_toml_read.proofs.LinesGathered.{LinesSoFar, row_first, row_stands, lines_alone, lines_more}

pub record RowsSoFar (bytes : List ℕ) (start level at : ℕ) (old new : Gathered) : Type 0 where
  pub got : Lines
  pub lines : LinesSoFar level old new got
  pub told : rows_of (text_at bytes start) ≡ after lines.join (rows_of (text_at bytes at))
  pub boundary : IsCharBoundary bytes at
  pub forward : start ≤ at
  pub gaps : IsGap (text_at bytes start) → IsGap (text_at bytes at) × (lines_of new ≡ lines_of old)
  pub deep : SameDeep (DeepRows nesting_limit level (text_at bytes at))
      (DeepRows nesting_limit level (text_at bytes start))
  pub holes : LeadsTo (in_rows (text_at bytes at)) (in_rows (text_at bytes start))

pub sign_stands : (c : ℕ) (bytes : List ℕ) (at : ℕ) (o : Option ℕ) → IsPunctuationEnd c bytes at o → true ≡ is_some o
    → (next : ℕ) × IsPunctuationEnd c bytes at (Some next)
sign_stands c bytes at None s e = cc
sign_stands c bytes at (Some next) s e = (next, s)

-- a line, and where the blanks at its front end
pub record IsLine (bytes : List ℕ) (at front : ℕ) : Type 0 where
  pub first : ℕ × ℕ
  pub line : Text
  pub is : text_at bytes at ≡ first ∷ line
  pub blanks : Leaves bytes at front (after_blanks (text_at bytes at))

pub line_here : (bytes : List ℕ) (at front : ℕ) → IsUtf8 bytes → IsCharBoundary bytes at → at < length bytes
    → Leaves bytes at front (after_blanks (text_at bytes at)) → IsLine bytes at front
line_here bytes at front whole here h blanks = go (text_at bytes at) refl
  where
    go : (t : Text) → text_at bytes at ≡ t → IsLine bytes at front
    go [] e = absurd (omega (arith, over_at_end bytes at whole here e))
    go (x ∷ line) e = record { first = x; line = line; is = e; blanks = blanks }

-- one without a header
pub record NoHeader (bytes : List ℕ) (at front : ℕ) : Type 0 where
  pub line : IsLine bytes at front
  pub none : IsPunctuationEnd 91 bytes front None

-- what reading rows answers
abbrev pub RowsAnswered : List ℕ → ℕ → ℕ → Gathered → Gathered → Result (Option ℕ) Stop → Type 0
RowsAnswered bytes start level old new result = record {
  read : ReadsRows bytes start level old new result;
  inside : IfErr result (λ stop. StopsInside bytes stop);
  gaps : PassesGaps bytes start old new result;
  deep : IfDeep (DeepRows nesting_limit level (text_at bytes start)) result;
  hole : InHole (in_rows (text_at bytes start)) bytes result;
}

module _ {bytes : List ℕ} {start level at : ℕ} {old new : Gathered} (s : RowsSoFar bytes start level at old new) where
  -- where they end
  rows_to : (rest : Text) {next : Option ℕ} → rows_of (text_at bytes at) ≡ Some (no_rows, rest) → NextAt bytes rest next
      → IsFrom start next → AreRowsRead bytes start level old new next
  unfolding after
  rows_to rest is ends from =
      let there = s.told ∙ after_from _ is ∙ ap (λ (rs : Rows). Some (rs, rest)) (lines_alone s.lines) in
      search rules

  -- at the end of the text
  pub rows_over : length bytes ≤ at → AreRowsRead bytes start level old new None
  unfolding rows_of
  rows_over h = rows_to [] (rw (text_end bytes at h) refl) refl tt

  -- a line
  module _ {front : ℕ} (l : IsLine bytes at front) where
    here : after_blanks (l.first ∷ l.line) ≡ text_at bytes front
    here = sym (l.blanks.left ∙ ap after_blanks l.is)

    by_line : (o : Option (ℕ × Text)) → char_at 91 (text_at bytes front) ≡ o → rows_of (text_at bytes at)
        ≡ if_found o (λ s. Some (no_rows, l.first ∷ l.line))
        (if_found (line_end_at (l.first ∷ l.line)) (λ next. rows_of next)
        (and_then (row_of (text_at bytes front)) (after_row rows_of)))
    by_line o e = ap rows_of l.is ∙ rows_is l.first l.line ∙ rw here (found_from _ _ e)

    -- a header
    pub rows_bracket : (next : ℕ) → IsPunctuationEnd 91 bytes front (Some next)
        → AreRowsRead bytes start level old new (Some front)
    rows_bracket next sign =
        rows_to (l.first ∷ l.line) (by_line (Some (front, text_at bytes next)) (sign_there sign.0))
        (l.first, l.line, refl, sym here, l.blanks.boundary, λ none. cc (none, sign_there sign.0))
        (omega (arith, s.forward, l.blanks.forward))

    -- a header is no gap
    pub bracket_no_gap : (next : ℕ) → IsPunctuationEnd 91 bytes front (Some next) → IsGap (text_at bytes start) → ⊥
    bracket_no_gap next sign g = gap_has_no_bracket (text_at bytes at) (sym l.blanks.left ∙ sign.0) (s.gaps g).0

    module _ (none : IsPunctuationEnd 91 bytes front None) where
      by_end_of_line : (o : Option Text) → line_end_at (text_at bytes at) ≡ o → rows_of (text_at bytes at)
          ≡ if_found o (λ next. rows_of next) (and_then (row_of (text_at bytes front)) (after_row rows_of))
      by_end_of_line o e =
          by_line None (sign_missing 91 (text_at bytes front) none) ∙ found_from _ _ (ap line_end_at (sym l.is) ∙ e)

      -- an empty line, or one of a comment
      pub rows_empty : (end next : ℕ) → line_end_at (text_at bytes at) ≡ end_of (text_at bytes end) → front ≤ end
          → EndsAt bytes end (Some next) → RowsSoFar bytes start level next old new
      rows_empty end next same h ends =
          let e = same ∙ ends.0 in
          let over : EndsLine is_comment (l.first ∷ l.line) (text_at bytes next) =
          line_end_read (l.first ∷ l.line) (text_at bytes next) (ap line_end_at (sym l.is) ∙ e) in record {
            got = s.got;
            lines = s.lines;
            told = s.told ∙ after_from _ (by_end_of_line (Some (text_at bytes next)) e);
            boundary = ends.1;
            forward = omega (arith, s.forward, l.blanks.forward);
            gaps = λ g. (
              gap_over (line_of (text_at bytes at)) (text_at bytes next) e
                  (gap_past_line (text_at bytes at) ∙ (s.gaps g).0),
              (s.gaps g).1,
            );
            deep = then_deep (λ p. after_empty over) (λ p. within.past_empty_line over) (rw l.is at s.deep);
            holes = then_in (λ h at. HoleInRows.after_empty over) (λ at d. refl) (rw l.is at s.holes);
          }

      module _ (goes_on : line_end_at (text_at bytes at) ≡ None) where
        -- a line that goes on is no gap
        rows_no_gap : IsGap (text_at bytes start) → ⊥
        rows_no_gap g = gap_ends_line (text_at bytes at) goes_on (s.gaps g).0

        told' : rows_of (text_at bytes start)
            ≡ after s.lines.join (and_then (row_of (text_at bytes front)) (after_row rows_of))
        told' = s.told ∙ after_from _ (by_end_of_line None goes_on)

        -- a comment that goes on
        pub comment_stops : (next end : ℕ) → IsPunctuationEnd 35 bytes front (Some next)
            → line_of (text_at bytes at) ≡ text_at bytes end → end_of (text_at bytes end) ≡ None
            → IsCharBoundary bytes end
            → RowsAnswered bytes start level old new (Err (record { at = end; why = Newline }))
        unfolding after
        comment_stops next end hash same over boundary =
            let comment = sym l.blanks.left ∙ hash.0 in
            record {
              read = told' ∙ after_from _ (then_from _ (row_is (text_at bytes front)
                  ∙ then_from _ (keys_is (text_at bytes front) ∙ then_from _ (ap key_at hash.0))));
              inside = inr boundary;
              gaps = λ g. absurd (rows_no_gap g);
              deep = λ p d. within.no_row_line comment (λ mid e. within.no_end goes_on e) refl (s.deep.backs p d);
              hole = (
                s.holes.on Hole.after_line (text_at bytes end) (rw (← same) (HoleInRows.after_comment comment)),
                over,
              );
            }

        -- no row
        pub row_stops : (new' : Gathered) → IsPunctuationEnd 35 bytes front None → (stop : Stop)
            → StopIn bytes (row_of (text_at bytes front)) (λ r. nesting_limit < row_level level r)
            (DeepRow nesting_limit level (text_at bytes front)) (in_row (text_at bytes front) Hole.after_line) stop
            → RowsAnswered bytes start level old new' (Err stop)
        row_stops new' hash stop e = record {
          read = misses_after stop.why _ _ _ _ (λ rs. nesting_limit < rows_level level rs) told'
              (λ r q e h. let (next, next_is, f) = then_some (line_end_at r.rest) _ q e in
              let (rows, rows_is, same) = then_some (rows_of next) _ q f in
              let there : row_first r rows.0 ≡ q.0 = cc in
              omega (arith, h, s.lines.high q.0, ap (rows_level level) there))
              e.read;
          inside = e.inside;
          gaps = λ g. absurd (rows_no_gap g);
          deep = at_deep stop.why stop.at _ e.read (λ p d. s.deep.leads p (this_row (rw l.blanks.left at d)))
              (λ none p d. rw l.blanks.left
              (line_row goes_on (ap row_of (sym l.blanks.left) ∙ none) (s.deep.backs p d))) e.deep;
          hole = stops_on holes stop.why (text_at bytes stop.at) e.hole;
        }
          where
            holes : LeadsTo (in_row (text_at bytes front) Hole.after_line) (in_rows (text_at bytes start))
            holes = rw l.blanks.left (then_in (λ h at. HoleInRows.this_row
                (ap (char_at 91) (sym l.blanks.left) ∙ sign_missing 91 (text_at bytes front) none)
                (ap (char_at 35) (sym l.blanks.left) ∙ sign_missing 35 (text_at bytes front) hash) goes_on)
                (λ at d. refl) s.holes)

        -- a row
        module _ {new' : Gathered} {after' : ℕ} (r : IsRowRead bytes front level new new' after') where
          by_end : (o : Option Text) → line_end_at (text_at bytes after') ≡ o → rows_of (text_at bytes start)
              ≡ after s.lines.join (and_then o (λ next.
              and_then (rows_of next) (λ rows. Some (row_first r.found rows.0, rows.1))))
          by_end o e = told' ∙ after_from _ (then_from _ r.is ∙ then_from _ (ap line_end_at r.rest ∙ e))

          stands : IsRow is_comment (after_blanks (text_at bytes at)) r.found.keys r.found.offset r.found.value
              (text_at bytes after')
          stands = rw (← l.blanks.left) (row_stands r)

          pub unended_stops : (stop : Stop) → EndsLineAt bytes after' (Err stop) → StopsInside bytes stop
              → RowsAnswered bytes start level old new' (Err stop)
          unfolding after
          unended_stops stop e inside = record {
            read = misses_none stop.why (rows_of (text_at bytes start)) _ (by_end None e.0);
            inside = inside;
            gaps = λ g. absurd (rows_no_gap g);
            deep = rw e.1 (λ p d. within.last_row_line stands r.limit e.0 (s.deep.backs p d));
            hole = rw e.1 (
              s.holes.on Hole.after_line (text_at bytes stop.at) (rw e.2 (HoleInRows.after_row stands)),
              ap end_of e.2 ∙ e.0,
            );
          }

          pub rows_more : (next : ℕ) → EndsLineAt bytes after' (Ok next) → RowsSoFar bytes start level next old new'
          unfolding lines_more
          rows_more next e =
              let over = line_end_read (text_at bytes after') (text_at bytes next) e.0 in
              record {
                got = and_lines s.got r.added;
                lines = lines_more s.lines r;
                told = by_end (Some (text_at bytes next)) e.0
                    ∙ after_one _ _ _ (rows_of (text_at bytes next)) (λ rs. refl);
                boundary = e.1;
                forward = omega (arith, s.forward, l.blanks.forward, r.later, e.2);
                gaps = λ g. absurd (rows_no_gap g);
                deep = then_deep (λ p. later_row stands r.limit over) (λ p. within.past_row stands r.limit over) s.deep;
                holes = then_in (λ h at. HoleInRows.later_row stands over) (λ at d. refl) s.holes;
              }
