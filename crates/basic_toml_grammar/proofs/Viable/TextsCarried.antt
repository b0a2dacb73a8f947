-- So it is with lines, headers, sections and texts.
use Rattle.std.proofs.Common.{◌≡◌, ℕ, ◌<◌, ◌==◌, Bool, true, false, cond, List, [], ◌∷◌, Some, None, length, refl, ap}
use Rattle.std.proofs.Common.{sym, ◌∙◌, subst, arith}
use Rattle.std.specs.Prelude.{not}
use Rattle.std.proofs.lemmas.Bool.{false≢true}
use Rattle.basic_toml_tokens.specs.Text.{Text, StartsWith, after_run, is_blank, is_comment, after_blanks}
use Rattle.basic_toml_grammar.specs.Sections.{Key}
use Rattle.basic_toml_grammar.specs.Grammar.{IsKeys, IsRow, EndsLine, at_feed, at_end as line_at_end, IsHeader, table}
use Rattle.basic_toml_grammar.specs.Grammar.{array_of_tables, after_comment_by}
use Rattle.basic_toml_grammar.specs.Reader.{char_at, end_of}
use Rattle.basic_toml_grammar.specs.Holes as holes
use Rattle.basic_toml_grammar.specs.Holes.{Hole, HoleInKeys, HoleInRow, HoleInRows, HoleInHeader, HoleInSections}
use Rattle.basic_toml_grammar.specs.Holes.{HoleInText, behind_in_row, behind_in_rows, behind_in_sections, behind_in_text}
use Rattle.basic_toml_grammar.proofs.Grammar.EndChangesNothing.{Parts, at_end, past, stops, Ends, Cut}
use Rattle.basic_toml_grammar.proofs.Grammar.EndChangesNothing.{same_clear}
use Rattle.basic_toml_grammar.proofs.Grammar.EndChangesNothing.{comment_to, run_to, Carried, carried}
use Rattle.basic_toml_grammar.proofs.Grammar.EndChangesNothing.{sign_carried, blanks_carried}
use Rattle.basic_toml_grammar.proofs.Grammar.StringsCarried.{Alike}
use Rattle.basic_toml_grammar.proofs.Grammar.GrammarIsUnambiguous.{no_sign}
use Rattle.basic_toml_grammar.proofs.Grammar.ReaderIsComplete.{blanks_length}
use Rattle.basic_toml_grammar.proofs.Grammar.GrammarCarried.{keys_carried, sign_after_blanks, row_carried, line_carried}
use Rattle.basic_toml_grammar.proofs.Grammar.GrammarCarried.{rows_some, rows_carried, header_carried}
use Rattle.basic_toml_grammar.proofs.Completion.Fillers.{rows_gap, sections_gap, text_gap}
use Rattle.basic_toml_grammar.proofs.Completion.TextsCompleted.{no_hole_in_rows, rows_on, sections_on}
use Rattle.basic_toml_grammar.proofs.Completion.HeadersFollow.{row_opens, rows_open, header_opens, sections_open}
use Rattle.basic_toml_grammar.proofs.Completion.HeadersFollow.{text_opens}
use Rattle.basic_toml_grammar.proofs.Viable.HolesAreWithin.{keys_past, row_past}
use Rattle.basic_toml_grammar.proofs.Viable.HolesCarried.{Turn, Opening, passes, Gapped, taken, misses, misses_past}
use Rattle.basic_toml_grammar.proofs.Viable.HolesCarried.{keys_hole, row_hole, alike_turn, RowTo}

-- where no comment stands, the first character tells whether the line ends
no_end : (b : Bool) (x : ℕ × ℕ) (t u : Text) (p : ℕ × Text) (r s : Text) → cond b (Some p) None ≡ None
    → end_of (cond b r (x ∷ t)) ≡ None → end_of (cond b s (x ∷ u)) ≡ None
no_end true x t u p r s m e = cc
no_end false x t u p r s m e = taken (x.1 == 10) t u e

-- a header, or a reading in headed sections, begins with a bracket after blanks
record Bracketed (text : Text) : Type 0 where
  offset : ℕ
  next : Text
  sign : StartsWith 91 text offset next

bracketed : {q : ℕ} {text next : Text} → StartsWith 91 text q next → Bracketed text
bracketed {q = q} {next = next} s = record { offset = q; next = next; sign = s }

header_bracketed : {q : ℕ} {text mid : Text} {ks : List Key} {a : Bool} → IsHeader text q ks a mid → Bracketed text
header_bracketed (table s ks e) = bracketed s
header_bracketed (array_of_tables s t ks e f) = bracketed s

hole_bracketed : {h : Hole} {text at : Text} → HoleInHeader text h at → Bracketed text
hole_bracketed (holes.table_keys s m d) = bracketed s
hole_bracketed (holes.table_end s ks) = bracketed s
hole_bracketed (holes.array_keys s t d) = bracketed s
hole_bracketed (holes.array_end s t ks) = bracketed s
hole_bracketed (holes.array_last s t ks e) = bracketed s

sections_bracketed : {h : Hole} {text at : Text} → HoleInSections text h at → Bracketed (after_blanks text)
sections_bracketed (holes.in_header d) = hole_bracketed d
sections_bracketed (holes.after_header x) = header_bracketed x
sections_bracketed (holes.in_rows x e d) = header_bracketed x
sections_bracketed (holes.later_section x e rs d) = header_bracketed x

-- where a line or a header may begin, it may begin with what stands there in both
abbrev pub Opened : Bool → Text → Text → Type 0
Opened bare here there = bare ≡ true → Opening here there

-- a line that is not over
not_over : {here there text other : Text} → Parts here there text other → char_at 35 text ≡ None
    → end_of (after_comment_by is_comment text) ≡ None → Opening here there
    → end_of (after_comment_by is_comment other) ≡ None
not_over (at_end t o) m e f =
    ap (λ (t : Text). end_of (after_comment_by is_comment t)) o
    ∙ f.line_end (sym (ap (char_at 35) t) ∙ m) (sym (ap (λ (t : Text). end_of (after_comment_by is_comment t)) t) ∙ e)
not_over (past {x = x} {text = text} {other = other} k) m e f =
    no_end (x.1 == 35) x text other (x.0, text) (after_run is_comment text) (after_run is_comment other) m e

-- the same has to come behind its value
abbrev pub RowsTo : Hole → Text → Text → Hole → Type 0
RowsTo h text at b = (d : HoleInRows text h at) × (behind_in_rows d ≡ b)

abbrev pub SectionsTo : Hole → Text → Text → Hole → Type 0
SectionsTo h text at b = (d : HoleInSections text h at) × (behind_in_sections d ≡ b)

abbrev pub TextTo : Hole → Text → Text → Hole → Type 0
TextTo h text at b = (d : HoleInText text h at) × (behind_in_text d ≡ b)

-- an empty line before a hole
hole_below : {h b : Hole} {next at : Text} (text : Text) → EndsLine is_comment text next → RowsTo h next at b
    → RowsTo h text at b
hole_below [] (at_feed s) d = absurd (no_sign refl s)
hole_below [] (line_at_end e) d = absurd (no_hole_in_rows d.0)
hole_below (x ∷ text) e d = (holes.after_empty e d.0, d.1)

-- what stands there where the hole is not at the front
opening_past : {here there text other : Text} → Parts here there text other → length here < length text
    → Opening text other
opening_past (at_end t o) l = absurd (omega (arith, ap length t))
opening_past (past {x = x} {text = text} {other = other} k) l = record {
  bracket = λ m. taken (x.1 == 91) (x.0, text) (x.0, other) m;
  hash = λ m. taken (x.1 == 35) (x.0, text) (x.0, other) m;
  line_end = λ m e. no_end (x.1 == 35) x text other (x.0, text) (after_run is_comment text)
      (after_run is_comment other) m e;
}

opening_front : {here there text other : Text} → Parts here there text other → Opening here there → Opening text other
opening_front k f = record {
  bracket = λ m. misses 91 m k f.bracket;
  hash = λ m. misses 35 m k f.hash;
  line_end = λ m e. not_over k m e f;
}

comment_hole : {at at' : Text} (text : Text) → at ≡ after_comment_by is_comment text → Ends (λ c. c == 35) at at'
    → Ends is_comment at at' → Cut at at' at at' → Carried at at' text (λ t. after_comment_by is_comment t ≡ at')
comment_hole text e a b k = carried (comment_to is_comment text e a b) k

whole : {h : Hole} {at at' end : Text} → Turn h at at' end → Cut at at' at at'
whole turn = record { parts = at_end refl refl; meets = turn.meets }

-- the end of a line, after blanks and a comment
line_hole : {at at' end : Text} (mid : Text) → at ≡ after_comment_by is_comment (after_blanks mid)
    → Turn Hole.after_line at at' end
    → Carried at at' mid (λ t. after_comment_by is_comment (after_blanks t) ≡ end)
line_hole mid e turn =
    let m = comment_hole (after_blanks mid) e (turn.line refl).0 (turn.line refl).1 (whole turn) in
    let r = blanks_carried mid m.cut in
    record {
      other = r.other;
      cut = r.cut;
      holds = ap (after_comment_by is_comment) r.holds ∙ m.holds ∙ turn.lands (λ e. cc);
    }

pub rows_hole : {h : Hole} {text at at' end : Text} (d : HoleInRows text h at) → Turn h at at' end
    → Gapped (rows_gap d) at at' end → Opened (rows_open d) at at'
    → Carried at at' text (λ t. RowsTo h t end (behind_in_rows d))
rows_hole {h = h} {at = at} {at' = at'} {end = end} (holes.this_row {text = text} b c m d) turn gap unlocked =
    let x = row_hole d turn gap in
    let r = blanks_carried text x.cut in
    let same = sym r.holds in
    let y = subst (λ (t : Text). RowTo h t end (λ b. behind_in_row b d)) same x.holds in
    let o : Opening (after_blanks text) x.other = opens (row_opens d) refl unlocked x.cut.parts in
    record {
      other = r.other;
      cut = r.cut;
      holds = (
        holes.this_row (subst (λ (t : Text). char_at 91 t ≡ None) same (o.bracket b))
            (subst (λ (t : Text). char_at 35 t ≡ None) same (o.hash c))
            (subst (λ (t : Text). end_of (after_comment_by is_comment t) ≡ None) same (o.line_end c m)) y.0,
        y.1 Hole.after_line,
      );
    }
  where
    opens : {other : Text} (f : Bool) → row_opens d ≡ f → Opened f at at' → Parts at at' (after_blanks text) other
        → Opening (after_blanks text) other
    opens true e unlocked k = opening_front k (unlocked refl)
    opens false e unlocked k = opening_past k (row_past d e)
rows_hole (holes.after_comment {q = q} {text = text} {next = next} s) turn gap unlocked =
    let inner : after_comment_by is_comment (after_blanks text) ≡ after_run is_comment next =
    ap (after_comment_by is_comment) s in
    let e = (turn.line refl).1 in
    let k = carried (run_to is_comment next inner e) (whole turn) in
    let g = sign_carried {c = 35} s k.cut.parts in
    let r = blanks_carried text g.cut in
    record {
      other = r.other;
      cut = r.cut;
      holds = subst (λ (t : Text). RowsTo Hole.after_line r.other t Hole.after_line)
          (ap (after_comment_by is_comment) (r.holds ∙ g.holds) ∙ k.holds.0 ∙ turn.lands (λ e. cc))
          (holes.after_comment {q = q} (r.holds ∙ g.holds), refl);
    }
rows_hole (holes.after_row {keys = ks} {q = q} {v = v} {text = text} {mid = mid} x) turn gap unlocked =
    let m = line_hole mid refl turn in
    let y = row_carried x m.cut in
    let r = blanks_carried text y.cut in
    record {
      other = r.other;
      cut = r.cut;
      holds = subst (λ (t : Text). RowsTo Hole.after_line r.other t Hole.after_line) m.holds
          (holes.after_row (subst (λ (t : Text). IsRow is_comment t ks q v m.other) (sym r.holds) y.holds), refl);
    }
rows_hole (holes.after_empty e d) turn gap unlocked =
    let x = rows_hole d turn gap unlocked in
    let r = line_carried e (rows_on d) x.cut.parts in
    record { other = r.other; cut = r.cut; holds = hole_below r.other r.holds x.holds }
rows_hole (holes.later_row {keys = ks} {q = q} {v = v} {text = text} x e d) turn gap unlocked =
    let y = rows_hole d turn gap unlocked in
    let i = line_carried e (rows_on d) y.cut.parts in
    let z = row_carried x i.cut in
    let r = blanks_carried text z.cut in
    record {
      other = r.other;
      cut = r.cut;
      holds = (
        holes.later_row (subst (λ (t : Text). IsRow is_comment t ks q v i.other) (sym r.holds) z.holds) i.holds
            y.holds.0,
        y.holds.1,
      );
    }

blanks_skipped : (next : Text) → stops is_blank next ≡ false → length (after_blanks next) < length next
blanks_skipped [] e = absurd (false≢true (sym e))
blanks_skipped (x ∷ t) e = go (is_blank x.1) refl
  where
    go : (b : Bool) → is_blank x.1 ≡ b → length (cond b (after_blanks t) (x ∷ t)) < length (x ∷ t)
    go true f = omega (arith, blanks_length t)
    go false f = absurd (false≢true (sym e ∙ ap not f))

-- no second bracket stands there in the other, either
no_bracket : {h : Hole} {q : ℕ} {text next at at' other : Text} (s : StartsWith 91 text q next)
    (m : char_at 91 next ≡ None) (d : HoleInKeys (after_blanks next) h at)
    → Opened (header_opens (holes.table_keys s m d)) at at' → Parts at at' next other → char_at 91 other ≡ None
no_bracket {next = next} {at' = at'} {other = other} s m holes.this_key unlocked k = go (stops is_blank next) refl unlocked
  where
    go : (b : Bool) → stops is_blank next ≡ b → Opened b (after_blanks next) at' → char_at 91 other ≡ None
    go true e unlocked = misses 91 m k (unlocked refl).bracket
    go false e unlocked = misses_past 91 m k (blanks_skipped next e)
no_bracket {next = next} s m (holes.later_key key t d) unlocked k =
    misses_past 91 m k (omega (arith, keys_past (holes.later_key key t d) refl, blanks_length next))

header_hole : {h : Hole} {text at at' end : Text} (d : HoleInHeader text h at) → Turn h at at' end
    → Opened (header_opens d) at at' → Carried at at' text (λ t. HoleInHeader t h end)
header_hole {h = h} {end = end} (holes.table_keys {next = next} s m d) turn unlocked =
    let x = keys_hole d turn in
    let b = blanks_carried next x.cut in
    let r = sign_carried s b.cut.parts in
    record {
      other = r.other;
      cut = r.cut;
      holds = holes.table_keys r.holds (no_bracket s m d unlocked b.cut.parts)
          (subst (λ (t : Text). HoleInKeys t h end) (sym b.holds) x.holds);
    }
header_hole (holes.table_end {keys = ks} {next = next} {mid = mid} s xs) turn unlocked =
    let g = blanks_carried mid (whole turn) in
    let x = keys_carried xs g.cut in
    let b = blanks_carried next x.cut in
    let r = sign_carried s b.cut.parts in
    record {
      other = r.other;
      cut = r.cut;
      holds = subst (λ (t : Text). HoleInHeader r.other Hole.after_header_keys t) (g.holds ∙ turn.lands (λ e. cc))
          (holes.table_end r.holds (subst (λ (t : Text). IsKeys t ks g.other) (sym b.holds) x.holds));
    }
header_hole {h = h} {end = end} (holes.array_keys {inner = inner} s t d) turn unlocked =
    let x = keys_hole d turn in
    let b = blanks_carried inner x.cut in
    let i = sign_carried t b.cut.parts in
    let r = sign_carried s i.cut.parts in
    record {
      other = r.other;
      cut = r.cut;
      holds = holes.array_keys r.holds i.holds
          (subst (λ (t : Text). HoleInKeys t h end) (sym b.holds) x.holds);
    }
header_hole (holes.array_end {keys = ks} {inner = inner} {mid = mid} s t xs) turn unlocked =
    let g = blanks_carried mid (whole turn) in
    let x = keys_carried xs g.cut in
    let b = blanks_carried inner x.cut in
    let i = sign_carried t b.cut.parts in
    let r = sign_carried s i.cut.parts in
    record {
      other = r.other;
      cut = r.cut;
      holds = subst (λ (t : Text). HoleInHeader r.other Hole.after_header_keys t) (g.holds ∙ turn.lands (λ e. cc))
          (holes.array_end r.holds i.holds (subst (λ (t : Text). IsKeys t ks g.other) (sym b.holds) x.holds));
    }
header_hole (holes.array_last {keys = ks} {inner = inner} {mid = mid} s t xs e) turn unlocked =
    let g = sign_after_blanks mid e (whole turn) in
    let x = keys_carried xs g.cut in
    let b = blanks_carried inner x.cut in
    let i = sign_carried t b.cut.parts in
    let r = sign_carried s i.cut.parts in
    record {
      other = r.other;
      cut = r.cut;
      holds = subst (λ (t : Text). HoleInHeader r.other Hole.second_bracket t) (turn.lands (λ e. cc))
          (holes.array_last r.holds i.holds
          (subst (λ (t : Text). IsKeys t ks g.other) (sym b.holds) x.holds) g.holds);
    }

sections_hole : {h : Hole} {text at at' end : Text} (d : HoleInSections text h at) → Turn h at at' end
    → Gapped (sections_gap d) at at' end → Opened (sections_open d) at at'
    → Carried at at' text (λ t. SectionsTo h t end (behind_in_sections d))
sections_hole {h = h} {end = end} (holes.in_header {text = text} d) turn gap unlocked =
    let x = header_hole d turn unlocked in
    let r = blanks_carried text x.cut in
    record {
      other = r.other;
      cut = r.cut;
      holds = (holes.in_header (subst (λ (t : Text). HoleInHeader t h end) (sym r.holds) x.holds), refl);
    }
sections_hole (holes.after_header {keys = ks} {is_array = a} {q = q} {text = text} {mid = mid} x) turn gap unlocked =
    let m = line_hole mid refl turn in
    let y = header_carried x m.cut in
    let r = blanks_carried text y.cut in
    record {
      other = r.other;
      cut = r.cut;
      holds = subst (λ (t : Text). SectionsTo Hole.after_line r.other t Hole.after_line) m.holds
          (holes.after_header (subst (λ (t : Text). IsHeader t q ks a m.other) (sym r.holds) y.holds), refl);
    }
sections_hole (holes.in_rows {keys = ks} {is_array = a} {q = q} {text = text} x e d) turn gap unlocked =
    let y = rows_hole d turn gap unlocked in
    let i = line_carried e (rows_on d) y.cut.parts in
    let z = header_carried x i.cut in
    let r = blanks_carried text z.cut in
    record {
      other = r.other;
      cut = r.cut;
      holds = (
        holes.in_rows (subst (λ (t : Text). IsHeader t q ks a i.other) (sym r.holds) z.holds) i.holds y.holds.0,
        y.holds.1,
      );
    }
sections_hole (holes.later_section {keys = ks} {is_array = a} {q = q} {text = text} x e rs d) turn gap unlocked =
    let y = sections_hole d turn gap unlocked in
    let b = sections_bracketed y.holds.0 in
    let m = rows_carried rs (sections_on d) y.cut.parts b.offset b.next b.sign in
    let i = line_carried e (rows_some rs (sections_on d)) m.parts in
    let z = header_carried x i.cut in
    let r = blanks_carried text z.cut in
    record {
      other = r.other;
      cut = r.cut;
      holds = (
        holes.later_section (subst (λ (t : Text). IsHeader t q ks a i.other) (sym r.holds) z.holds) i.holds m.holds
            y.holds.0,
        y.holds.1,
      );
    }

-- what begins with the same character
alike_opening : {here there : Text} → Alike here there → Opening here there
alike_opening {here = here} {there = there} a =
    subst (λ (t : Text). Opening t there) (sym a.here) (subst (λ (t : Text). Opening (a.first ∷ a.next) t) (sym a.there)
    (opening_past {here = a.next} {there = a.next'} (past (at_end refl refl)) (omega arith)))

-- what is the same up to there, and the reading of it
pub record TextCarried (here there text : Text) (Holds : Text → Type 0) : Type 0 where
  pub other : Text
  pub parts : Parts here there text other
  pub holds : Holds other

behind_turned : {h : Hole} {text at at' end : Text} (d : HoleInText text h at) → Turn h at at' end
    → Gapped (text_gap d) at at' end → Opened (text_opens d) at at'
    → TextCarried at at' text (λ t. TextTo h t end (behind_in_text d))
behind_turned (holes.root d) turn gap unlocked =
    let x = rows_hole d turn gap unlocked in
    record { other = x.other; parts = x.cut.parts; holds = (holes.root x.holds.0, x.holds.1) }
behind_turned (holes.headed rs d) turn gap unlocked =
    let y = sections_hole d turn gap unlocked in
    let b = sections_bracketed y.holds.0 in
    let m = rows_carried rs (sections_on d) y.cut.parts b.offset b.next b.sign in
    record { other = m.other; parts = m.parts; holds = (holes.headed m.holds y.holds.0, y.holds.1) }

pub text_turned : {h : Hole} {text at at' end : Text} (d : HoleInText text h at) → Turn h at at' end
    → Gapped (text_gap d) at at' end → Opened (text_opens d) at at'
    → TextCarried at at' text (λ t. HoleInText t h end)
text_turned d turn gap unlocked =
    let x = behind_turned d turn gap unlocked in record { other = x.other; parts = x.parts; holds = x.holds.0 }

-- where both go on with the same character
pub text_hole : {h : Hole} {text at at' : Text} → Alike at at' → HoleInText text h at
    → TextCarried at at' text (λ t. HoleInText t h at')
text_hole {h = h} a d =
    text_turned d (alike_turn h a) (λ e. passes (same_clear a.here a.there)) (λ e. alike_opening a)

-- and then the same has to come behind its value
pub text_behind : {h : Hole} {text at at' : Text} → Alike at at' → (d : HoleInText text h at)
    → TextCarried at at' text (λ t. TextTo h t at' (behind_in_text d))
text_behind {h = h} a d =
    behind_turned d (alike_turn h a) (λ e. passes (same_clear a.here a.there)) (λ e. alike_opening a)
