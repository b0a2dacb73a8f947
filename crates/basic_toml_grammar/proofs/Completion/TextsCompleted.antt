-- The same of lines, headers and whole texts.
use Rattle.std.proofs.Common.{◌≡◌, ℕ, ◌&&◌, Bool, true, false, List, [], ◌∷◌, refl, ap, sym, ◌∙◌, subst, arith}
use Rattle.std.proofs.Common.{Option}
use Rattle.std.proofs.lemmas.Bool.{false≢true}
use Rattle.basic_toml_tokens.specs.Text.{Text, StartsWith, is_blank, is_comment, after_blanks}
use Rattle.basic_toml_grammar.specs.Sections.{Key, Section}
use Rattle.basic_toml_grammar.specs.Grammar.{IsKeys, IsRow, after_comment_by, IsRows, over, row_line, IsHeader}
use Rattle.basic_toml_grammar.specs.Grammar.{table, array_of_tables, IsSections, no_more, section, IsSectionList}
use Rattle.basic_toml_grammar.specs.Grammar as grammar
use Rattle.basic_toml_grammar.specs.Holes as holes
use Rattle.basic_toml_grammar.specs.Holes.{Hole, HoleInRows, HoleInHeader, HoleInSections, HoleInText}
use Rattle.basic_toml_grammar.proofs.Grammar.EndChangesNothing.{Parts, at_end, stops, apart, meets_past, kept, Carried}
use Rattle.basic_toml_grammar.proofs.Grammar.EndChangesNothing.{run_to, comment_to, sign_kept, sign_carried}
use Rattle.basic_toml_grammar.proofs.Grammar.EndChangesNothing.{blanks_carried}
use Rattle.basic_toml_grammar.proofs.Grammar.GrammarCarried.{Seen, keys_carried, row_carried, line_before, rows_some}
use Rattle.basic_toml_grammar.proofs.Grammar.GrammarCarried.{line_carried, rows_carried, header_carried}
use Rattle.basic_toml_grammar.proofs.Grammar.GrammarIsUnambiguous.{no_sign, no_row, no_header}
use Rattle.basic_toml_grammar.proofs.Completion.Fillers.{Filler, header_end, second_end, line_end, key_filled, after_filled}
use Rattle.basic_toml_grammar.proofs.Completion.Fillers.{fill_keys, fill_row_keys, fill_row_value, fill_rows, fill_header}
use Rattle.basic_toml_grammar.proofs.Completion.Fillers.{fill_sections, fill_text, row_gap, rows_gap, sections_gap}
use Rattle.basic_toml_grammar.proofs.Completion.Fillers.{text_gap}
use Rattle.basic_toml_grammar.proofs.Completion.ValuesCompleted.{placed, spot, Goes, Ready, keys_unblank, row_unblank}
use Rattle.basic_toml_grammar.proofs.Completion.ValuesCompleted.{keys_done, row_done}

-- no hole stands in nothing
pub no_hole_in_rows : {h : Hole} {at : Text} → HoleInRows [] h at → ⊥
no_hole_in_rows (holes.this_row b c m d) = cc
no_hole_in_rows (holes.after_comment s) = no_sign refl s
no_hole_in_rows (holes.after_row w) = no_row is_comment w
no_hole_in_rows (holes.later_row w e d) = no_row is_comment w

pub rows_on : {h : Hole} {text at : Text} → HoleInRows text h at → text ≡ [] → ⊥
rows_on {h = h} {at = at} d e = no_hole_in_rows (subst (λ (t : Text). HoleInRows t h at) e d)

no_hole_in_header : {h : Hole} {at : Text} → HoleInHeader [] h at → ⊥
no_hole_in_header (holes.table_keys s m d) = no_sign refl s
no_hole_in_header (holes.table_end s ks) = no_sign refl s
no_hole_in_header (holes.array_keys s t d) = no_sign refl s
no_hole_in_header (holes.array_end s t ks) = no_sign refl s
no_hole_in_header (holes.array_last s t ks e) = no_sign refl s

pub no_hole_in_sections : {h : Hole} {at : Text} → HoleInSections [] h at → ⊥
no_hole_in_sections (holes.in_header d) = no_hole_in_header d
no_hole_in_sections (holes.after_header w) = no_header w
no_hole_in_sections (holes.in_rows w e d) = no_header w
no_hole_in_sections (holes.later_section w e rs d) = no_header w

pub sections_on : {h : Hole} {text at : Text} → HoleInSections text h at → text ≡ [] → ⊥
sections_on {h = h} {at = at} d e = no_hole_in_sections (subst (λ (t : Text). HoleInSections t h at) e d)

pub header_bracket : {text rest : Text} {q : ℕ} {keys : List Key} {a : Bool} → IsHeader text q keys a rest
    → (next : Text) × StartsWith 91 text q next
header_bracket (table {next = next} s ks e) = (next, s)
header_bracket (array_of_tables {next = next} s t ks e f) = (next, s)

pub header_unblank : {text rest : Text} {q : ℕ} {keys : List Key} {a : Bool} → IsHeader text q keys a rest
    → stops is_blank text ≡ true
header_unblank w = ap (stops is_blank) (header_bracket w).1

-- headed sections, which begin with a bracket
pub record Headed (sections : List Section) (text : Text) : Type 0 where
  pub at : ℕ
  pub next : Text
  pub bracket : StartsWith 91 (after_blanks text) at next
  pub are : IsSections is_comment text sections

-- the end of a line ends there, where the text is over
line_over : (mid : Text) → Carried (after_comment_by is_comment (after_blanks mid)) [] mid
    (λ t. after_comment_by is_comment (after_blanks t) ≡ [])
line_over mid =
    let c = comment_to {there = []} is_comment (after_blanks mid) refl (λ s. refl) (λ s. refl) in
    let b = blanks_carried mid (record { parts = c.parts; meets = meets_past (apart refl) c.parts }) in
    record { other = b.other; cut = b.cut; holds = ap (after_comment_by is_comment) b.holds ∙ c.holds }

module _ (p : ℕ) (feed : Bool) where
  rows_done : {h : Hole} {s : Option ℕ} {text at : Text} (d : HoleInRows text h at) (x : Filler h s) → Ready p feed at
      → Goes p (rows_gap d && feed) s at text
      (λ t. IsRows is_comment t (fill_rows (spot p (rows_gap d && feed)) d x) [])
  rows_done {text = text} (holes.this_row b c m d) x ready =
      let on = row_done p feed d x [] tt ready in
      let g = kept (run_to is_blank text refl (λ s. row_unblank on.holds.1)) on.parts in
      let o = spot p (row_gap d && feed) in
      record {
        total = on.total;
        visible = on.visible;
        leads = on.leads;
        other = g.other;
        parts = g.parts;
        holds = row_line (subst (λ (t : Text). IsRow is_comment t (fill_row_keys o d x) (fill_row_value o d x).0
            (fill_row_value o d x).1 []) (sym g.holds.0) on.holds.1) (grammar.at_end refl) over;
      }
  rows_done {text = text} (holes.after_comment s) line_end ready =
      let b = line_over text in
      record {
        total = [];
        visible = tt;
        leads = refl;
        other = b.other;
        parts = b.cut.parts;
        holds = line_before b.other (grammar.at_end b.holds) over;
      }
  rows_done {text = text} (holes.after_row {keys = keys} {q = q} {v = v} {mid = mid} w) line_end ready =
      let b = line_over mid in
      let r = row_carried w b.cut in
      let g = blanks_carried text r.cut in
      record {
        total = [];
        visible = tt;
        leads = refl;
        other = g.other;
        parts = g.cut.parts;
        holds = row_line (subst (λ (t : Text). IsRow is_comment t keys q v b.other) (sym g.holds) r.holds)
            (grammar.at_end b.holds) over;
      }
  rows_done (holes.after_empty e d) x ready =
      let on = rows_done d x ready in
      let r = line_carried e (rows_on d) on.parts in
      record {
        total = on.total;
        visible = on.visible;
        leads = on.leads;
        other = r.other;
        parts = r.cut.parts;
        holds = line_before r.other r.holds on.holds;
      }
  rows_done {text = text} (holes.later_row {keys = keys} {q = q} {v = v} w e d) x ready =
      let on = rows_done d x ready in
      let i = line_carried e (rows_on d) on.parts in
      let r = row_carried w i.cut in
      let g = blanks_carried text r.cut in
      record {
        total = on.total;
        visible = on.visible;
        leads = on.leads;
        other = g.other;
        parts = g.cut.parts;
        holds = row_line (subst (λ (t : Text). IsRow is_comment t keys q v i.other) (sym g.holds) r.holds) i.holds
            on.holds;
      }

  header_done : {h : Hole} {s : Option ℕ} {text at : Text} (d : HoleInHeader text h at) (x : Filler h s)
      → Goes p false s at text
      (λ t. IsHeader t (fill_header p d x).at (fill_header p d x).header (fill_header p d x).is_array [])
  header_done (holes.table_keys {next = next} s m d) x =
      let on = keys_done p feed d x 93 [] refl refl (omega arith, omega arith, tt) in
      let b = kept (run_to is_blank next refl (λ s. keys_unblank on.holds)) on.parts in
      let g = sign_kept s b.parts in
      record {
        total = on.total;
        visible = on.visible;
        leads = on.leads;
        other = g.other;
        parts = g.parts;
        holds = table g.holds (subst (λ (t : Text). IsKeys t (fill_keys d (key_filled p x))
            (placed (after_filled p x) (93 ∷ []))) (sym b.holds.0) on.holds) refl;
      }
  header_done (holes.table_end {keys = keys} {next = next} {mid = mid} s ks) header_end =
      let b = run_to {there = placed p (93 ∷ [])} is_blank mid refl (λ s. refl) in
      let k = keys_carried ks (record { parts = b.parts; meets = meets_past (apart refl) b.parts }) in
      let n = blanks_carried next k.cut in
      let g = sign_kept s n.cut.parts in
      record {
        total = 93 ∷ [];
        visible = (omega arith, omega arith, tt);
        leads = ([], refl);
        other = g.other;
        parts = g.parts;
        holds = table g.holds (subst (λ (t : Text). IsKeys t keys b.other) (sym n.holds) k.holds) b.holds.0;
      }
  header_done (holes.array_keys {inner = inner} s i d) x =
      let on = keys_done p feed d x 93 (93 ∷ []) refl refl
      (omega arith, omega arith, (omega arith, omega arith, tt)) in
      let b = kept (run_to is_blank inner refl (λ s. keys_unblank on.holds)) on.parts in
      let j = sign_kept i b.parts in
      let g = sign_kept s j.parts in
      record {
        total = on.total;
        visible = on.visible;
        leads = on.leads;
        other = g.other;
        parts = g.parts;
        holds = array_of_tables g.holds j.holds (subst (λ (t : Text). IsKeys t (fill_keys d (key_filled p x))
            (placed (after_filled p x) (93 ∷ 93 ∷ []))) (sym b.holds.0) on.holds) refl refl;
      }
  header_done (holes.array_end {keys = keys} {inner = inner} {mid = mid} s i ks) header_end =
      let b = run_to {there = placed p (93 ∷ 93 ∷ [])} is_blank mid refl (λ s. refl) in
      let k = keys_carried ks (record { parts = b.parts; meets = meets_past (apart refl) b.parts }) in
      let n = blanks_carried inner k.cut in
      let j = sign_kept i n.cut.parts in
      let g = sign_kept s j.parts in
      record {
        total = 93 ∷ 93 ∷ [];
        visible = (omega arith, omega arith, (omega arith, omega arith, tt));
        leads = (93 ∷ [], refl);
        other = g.other;
        parts = g.parts;
        holds = array_of_tables g.holds j.holds
            (subst (λ (t : Text). IsKeys t keys b.other) (sym n.holds) k.holds) b.holds.0 refl;
      }
  header_done (holes.array_last {keys = keys} {inner = inner} {mid = mid} {last = last} s i ks e) second_end =
      let start : Parts last (placed p (93 ∷ [])) last (placed p (93 ∷ [])) = at_end refl refl in
      let c = sign_carried e start in
      let b = blanks_carried mid c.cut in
      let k = keys_carried ks b.cut in
      let n = blanks_carried inner k.cut in
      let j = sign_kept i n.cut.parts in
      let g = sign_kept s j.parts in
      record {
        total = 93 ∷ [];
        visible = (omega arith, omega arith, tt);
        leads = ([], refl);
        other = g.other;
        parts = g.parts;
        holds = array_of_tables g.holds j.holds
            (subst (λ (t : Text). IsKeys t keys b.other) (sym n.holds) k.holds) (b.holds ∙ c.holds) refl;
      }

  sections_done : {h : Hole} {s : Option ℕ} {text at : Text} (d : HoleInSections text h at) (x : Filler h s)
      → Ready p feed at
      → Goes p (sections_gap d && feed) s at text
      (λ t. Headed (fill_sections (spot p (sections_gap d && feed)) d x) t)
  sections_done {text = text} (holes.in_header d) x ready =
      let on = header_done d x in
      let f = fill_header p d x in
      let g = kept (run_to is_blank text refl (λ s. header_unblank on.holds)) on.parts in
      record {
        total = on.total;
        visible = on.visible;
        leads = on.leads;
        other = g.other;
        parts = g.parts;
        holds = record {
          at = f.at;
          next = (header_bracket on.holds).0;
          bracket = g.holds.0 ∙ (header_bracket on.holds).1;
          are = one_header d x (subst (λ (t : Text). IsHeader t f.at f.header f.is_array []) (sym g.holds.0) on.holds);
        };
      }
    where
      one_header : {h : Hole} {s : Option ℕ} {text at other : Text} (d : HoleInHeader text h at) (x : Filler h s)
          → IsHeader (after_blanks other) (fill_header p d x).at (fill_header p d x).header
          (fill_header p d x).is_array [] → IsSections is_comment other (fill_header p d x ∷ [])
      one_header (holes.table_keys s m d) x w = section w (grammar.at_end refl) over no_more
      one_header (holes.table_end s ks) x w = section w (grammar.at_end refl) over no_more
      one_header (holes.array_keys s t d) x w = section w (grammar.at_end refl) over no_more
      one_header (holes.array_end s t ks) x w = section w (grammar.at_end refl) over no_more
      one_header (holes.array_last s t ks e) x w = section w (grammar.at_end refl) over no_more
  sections_done {text = text} (holes.after_header {keys = keys} {is_array = a} {q = q} {mid = mid} w) line_end ready =
      let b = line_over mid in
      let r = header_carried w b.cut in
      let g = blanks_carried text r.cut in
      record {
        total = [];
        visible = tt;
        leads = refl;
        other = g.other;
        parts = g.cut.parts;
        holds = record {
          at = q;
          next = (header_bracket r.holds).0;
          bracket = g.holds ∙ (header_bracket r.holds).1;
          are = section (subst (λ (t : Text). IsHeader t q keys a b.other) (sym g.holds) r.holds)
              (grammar.at_end b.holds) over no_more;
        };
      }
  sections_done {text = text} (holes.in_rows {keys = keys} {is_array = a} {q = q} w e d) x ready =
      let on = rows_done d x ready in
      let i = line_carried e (rows_on d) on.parts in
      let r = header_carried w i.cut in
      let g = blanks_carried text r.cut in
      record {
        total = on.total;
        visible = on.visible;
        leads = on.leads;
        other = g.other;
        parts = g.cut.parts;
        holds = record {
          at = q;
          next = (header_bracket r.holds).0;
          bracket = g.holds ∙ (header_bracket r.holds).1;
          are = section (subst (λ (t : Text). IsHeader t q keys a i.other) (sym g.holds) r.holds) i.holds on.holds
              no_more;
        };
      }
  sections_done {text = text} (holes.later_section {keys = keys} {is_array = a} {q = q} w e rs d) x ready =
      let on = sections_done d x ready in
      let m = rows_carried rs (sections_on d) on.parts on.holds.at on.holds.next on.holds.bracket in
      let i = line_carried e (rows_some rs (sections_on d)) m.parts in
      let r = header_carried w i.cut in
      let g = blanks_carried text r.cut in
      record {
        total = on.total;
        visible = on.visible;
        leads = on.leads;
        other = g.other;
        parts = g.cut.parts;
        holds = record {
          at = q;
          next = (header_bracket r.holds).0;
          bracket = g.holds ∙ (header_bracket r.holds).1;
          are = section (subst (λ (t : Text). IsHeader t q keys a i.other) (sym g.holds) r.holds) i.holds m.holds
              on.holds.are;
        };
      }

  -- a text up to a hole
  text_done : {h : Hole} {s : Option ℕ} {text at : Text} (d : HoleInText text h at) (x : Filler h s)
      → Ready p feed at
      → Goes p (text_gap d && feed) s at text
      (λ t. IsSectionList t (fill_text (spot p (text_gap d && feed)) d x))
  text_done (holes.root d) x ready =
      let on = rows_done d x ready in
      record {
        total = on.total;
        visible = on.visible;
        leads = on.leads;
        other = on.other;
        parts = on.parts;
        holds = record {
          rows = fill_rows (spot p (rows_gap d && feed)) d x;
          headed = [];
          rest = [];
          root = on.holds;
          others = no_more;
          all = refl;
        };
      }
  text_done (holes.headed {rows = rows} rs d) x ready =
      let on = sections_done d x ready in
      let m = rows_carried rs (sections_on d) on.parts on.holds.at on.holds.next on.holds.bracket in
      record {
        total = on.total;
        visible = on.visible;
        leads = on.leads;
        other = m.other;
        parts = m.parts;
        holds = record {
          rows = rows;
          headed = fill_sections (spot p (sections_gap d && feed)) d x;
          rest = on.other;
          root = m.holds;
          others = on.holds.are;
          all = refl;
        };
      }

-- both ways of it: without a line feed where no comment ends there, and with one after each gap
never : (b : Bool) → (b && false) ≡ false
never true = refl
never false = refl

always : (b : Bool) → (b && true) ≡ b
always true = refl
always false = refl

pub text_filled : (p : ℕ) {h : Hole} {s : Option ℕ} {text at : Text} (d : HoleInText text h at) (x : Filler h s)
    → (text_gap d ≡ true → Seen at) → Goes p false s at text (λ t. IsSectionList t (fill_text p d x))
text_filled p {s = s} {text = text} {at = at} d x seen = go (text_gap d) refl
  where
    by : (feed : Bool) → (text_gap d && feed) ≡ false → Ready p feed at
        → Goes p false s at text (λ t. IsSectionList t (fill_text p d x))
    by feed e ready = subst (λ b. Goes p b s at text (λ t. IsSectionList t (fill_text (spot p b) d x))) e
        (text_done p feed d x ready)

    go : (b : Bool) → text_gap d ≡ b → Goes p false s at text (λ t. IsSectionList t (fill_text p d x))
    go true e = by false (never (text_gap d)) (λ n. seen e)
    go false e = by true (always (text_gap d) ∙ e) (λ e. absurd (false≢true (sym e)))

pub text_fed : (p : ℕ) {h : Hole} {s : Option ℕ} {text at : Text} (d : HoleInText text h at) (x : Filler h s)
    → Goes p (text_gap d) s at text (λ t. IsSectionList t (fill_text (spot p (text_gap d)) d x))
text_fed p {s = s} {text = text} {at = at} d x =
    subst (λ b. Goes p b s at text (λ t. IsSectionList t (fill_text (spot p b) d x))) (always (text_gap d))
    (text_done p true d x (λ e. absurd (false≢true (sym e))))
