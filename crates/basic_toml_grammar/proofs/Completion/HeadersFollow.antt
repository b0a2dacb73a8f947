-- Where a key may begin a line, a header may stand, too; and so may a second bracket where a header begins.
use Rattle.std.proofs.Common.{◌≡◌, ℕ, suc, Bool, true, false, List, [], ◌∷◌, length}
use Rattle.std.proofs.Common.{refl, sym, ◌∙◌, subst, arith}
use Rattle.std.specs.Prelude.{IsUtf8}
use Rattle.std.proofs.lemmas.Bool.{false≢true}
use Rattle.basic_toml_tokens.specs.Text.{Text, StartsWith, is_blank, is_comment, after_blanks, offset_in, folded}
use Rattle.basic_toml_grammar.specs.Sections.{Key, Rows, no_rows, row, Section}
use Rattle.basic_toml_grammar.specs.Grammar.{bare, IsKeys, IsRow, IsRows, header_next, row_line, IsHeader, table}
use Rattle.basic_toml_grammar.specs.Grammar.{array_of_tables, at_end, over, section, no_more, with_root, IsSectionList}
use Rattle.basic_toml_grammar.specs.Holes as holes
use Rattle.basic_toml_grammar.specs.Holes.{Hole, HoleInRow, HoleInRows, HoleInHeader, HoleInSections, HoleInText}
use Rattle.basic_toml_grammar.specs.Viable.{GoesOn, Begins}
use Rattle.basic_toml_grammar.proofs.Grammar.EndChangesNothing.{Parts, stops, after_stopped, run_to, kept}
use Rattle.basic_toml_grammar.proofs.Grammar.EndChangesNothing.{blanks_carried, sign_kept}
use Rattle.basic_toml_grammar.proofs.Grammar.EndChangesNothing as ends
use Rattle.basic_toml_grammar.proofs.Grammar.GrammarCarried.{row_carried, line_before, rows_some, line_carried}
use Rattle.basic_toml_grammar.proofs.Grammar.GrammarCarried.{rows_carried, header_carried}
use Rattle.basic_toml_grammar.proofs.Completion.ValuesCompleted.{placed, AreVisible}
use Rattle.basic_toml_grammar.proofs.Completion.TextsCompleted.{Headed, header_bracket, header_unblank, rows_on, sections_on}
use Rattle.basic_toml_grammar.proofs.Completion.CompletedBytes.{bytes_of}
use Rattle.basic_toml_grammar.proofs.Grammar.FrontsOfTexts.{front_of}

-- a key may begin there, and what makes a header, or one of an array of tables
abbrev pub row_opens : {h : Hole} {text at : Text} → HoleInRow text h at → Bool
row_opens (holes.in_keys holes.this_key) = true
row_opens _ = false

abbrev pub rows_open : {h : Hole} {text at : Text} → HoleInRows text h at → Bool
rows_open (holes.this_row b c m d) = row_opens d
rows_open (holes.after_comment s) = false
rows_open (holes.after_row w) = false
rows_open (holes.after_empty e d) = rows_open d
rows_open (holes.later_row w e d) = rows_open d

abbrev pub header_opens : {h : Hole} {text at : Text} → HoleInHeader text h at → Bool
header_opens (holes.table_keys {next = next} s m holes.this_key) = stops is_blank next
header_opens _ = false

abbrev pub sections_open : {h : Hole} {text at : Text} → HoleInSections text h at → Bool
sections_open (holes.in_header d) = header_opens d
sections_open (holes.after_header w) = false
sections_open (holes.in_rows w e d) = rows_open d
sections_open (holes.later_section w e rs d) = sections_open d

abbrev pub text_opens : {h : Hole} {text at : Text} → HoleInText text h at → Bool
text_opens (holes.root d) = rows_open d
text_opens (holes.headed rs d) = sections_open d

-- lines, and then a header
record Opened (text : Text) : Type 0 where
  rows : Rows
  rest : Text
  lines : IsRows is_comment text rows rest
  sections : List Section
  headed : Headed sections rest

record HeadedNow (text : Text) : Type 0 where
  sections : List Section
  headed : Headed sections text

record Listed (text : Text) : Type 0 where
  sections : List Section
  is : IsSectionList text sections

-- a text that goes on with a bracket
record Opens (p : ℕ) (at text : Text) (Holds : Text → Type 0) : Type 0 where
  total : List ℕ
  visible : AreVisible (91 ∷ total)
  other : Text
  parts : Parts at (placed p (91 ∷ total)) text other
  holds : Holds other

module _ (p : ℕ) where
  abbrev one_key : (o : ℕ) → Key
  one_key o = record { offset = o; text = 107 ∷ [] }

  -- `[k]` at the start of a line
  line_opened : (text : Text) → Opens p (after_blanks text) text Opened
  line_opened text =
      let b = run_to {there = placed p (91 ∷ 107 ∷ 93 ∷ [])} is_blank text refl (λ s. refl) in
      let k = one_key (suc p) in
      record {
        total = 107 ∷ 93 ∷ [];
        visible = (omega arith, omega arith, (omega arith, omega arith, (omega arith, omega arith, tt)));
        other = b.other;
        parts = b.parts;
        holds = record {
          rows = no_rows;
          rest = b.other;
          lines = header_next b.holds.0;
          sections = record { at = p; header = k ∷ []; is_array = false; rows = no_rows } ∷ [];
          headed = record {
            at = p;
            next = placed (suc p) (107 ∷ 93 ∷ []);
            bracket = b.holds.0;
            are = section (subst (λ (t : Text). IsHeader t p (k ∷ []) false []) (sym b.holds.0)
                (table refl (IsKeys.one (bare refl refl)) refl)) (at_end refl) over no_more;
          };
        };
      }

  rows_opened : {h : Hole} {text at : Text} (d : HoleInRows text h at) → rows_open d ≡ true → Opens p at text Opened
  rows_opened (holes.this_row {text = text} b c m (holes.in_keys holes.this_key)) o = line_opened text
  rows_opened (holes.this_row b c m (holes.in_keys (holes.later_key k s d))) o = absurd (false≢true o)
  rows_opened (holes.this_row b c m (holes.after_keys ks)) o = absurd (false≢true o)
  rows_opened (holes.this_row b c m (holes.in_value ks s d)) o = absurd (false≢true o)
  rows_opened (holes.after_comment s) o = absurd (false≢true o)
  rows_opened (holes.after_row w) o = absurd (false≢true o)
  rows_opened (holes.after_empty e d) o =
      let on = rows_opened d o in
      let r = line_carried e (rows_on d) on.parts in
      record {
        total = on.total;
        visible = on.visible;
        other = r.other;
        parts = r.cut.parts;
        holds = record {
          rows = on.holds.rows;
          rest = on.holds.rest;
          lines = line_before r.other r.holds on.holds.lines;
          sections = on.holds.sections;
          headed = on.holds.headed;
        };
      }
  rows_opened (holes.later_row {keys = keys} {q = q} {v = v} {text = text} w e d) o =
      let on = rows_opened d o in
      let i = line_carried e (rows_on d) on.parts in
      let r = row_carried w i.cut in
      let g = blanks_carried text r.cut in
      record {
        total = on.total;
        visible = on.visible;
        other = g.other;
        parts = g.cut.parts;
        holds = record {
          rows = row keys q v on.holds.rows;
          rest = on.holds.rest;
          lines = row_line (subst (λ (t : Text). IsRow is_comment t keys q v i.other) (sym g.holds) r.holds) i.holds
              on.holds.lines;
          sections = on.holds.sections;
          headed = on.holds.headed;
        };
      }

  -- `[[k]]` where `[` stands
  header_opened : {h : Hole} {text at : Text} (d : HoleInHeader (after_blanks text) h at) → header_opens d ≡ true
      → Opens p at text HeadedNow
  header_opened {text = text} d o = go refl d o
    where
      array : (t next : Text) (q : ℕ) → after_blanks text ≡ t → StartsWith 91 t q next → stops is_blank next ≡ true
          → Opens p (after_blanks next) text HeadedNow
      array t next q e s o =
          let here : after_blanks next ≡ next = (after_stopped is_blank next o).0 in
          let g = sign_kept {rest' = placed p (91 ∷ 107 ∷ 93 ∷ 93 ∷ [])} s (ends.at_end (sym here) refl) in
          let k = one_key (suc p) in
          let w : IsHeader g.other q (k ∷ []) true [] =
          array_of_tables g.holds refl (IsKeys.one (bare refl refl)) refl refl in
          let b = kept (run_to is_blank text (sym e) (λ s. header_unblank w)) g.parts in
          record {
            total = 107 ∷ 93 ∷ 93 ∷ [];
            visible = (
              omega arith,
              omega arith,
              (omega arith, omega arith, (omega arith, omega arith, (omega arith, omega arith, tt))),
            );
            other = b.other;
            parts = b.parts;
            holds = record {
              sections = record { at = q; header = k ∷ []; is_array = true; rows = no_rows } ∷ [];
              headed = record {
                at = q;
                next = (header_bracket w).0;
                bracket = b.holds.0 ∙ (header_bracket w).1;
                are = section (subst (λ (t : Text). IsHeader t q (k ∷ []) true []) (sym b.holds.0) w) (at_end refl)
                    over no_more;
              };
            };
          }

      go : {h : Hole} {t at : Text} → after_blanks text ≡ t → (d : HoleInHeader t h at) → header_opens d ≡ true
          → Opens p at text HeadedNow
      go {t = t} e (holes.table_keys {q = q} {next = next} s m holes.this_key) o = array t next q e s o
      go e (holes.table_keys s m (holes.later_key k t d)) o = absurd (false≢true o)
      go e (holes.table_end s ks) o = absurd (false≢true o)
      go e (holes.array_keys s t d) o = absurd (false≢true o)
      go e (holes.array_end s t ks) o = absurd (false≢true o)
      go e (holes.array_last s t ks f) o = absurd (false≢true o)

  sections_opened : {h : Hole} {text at : Text} (d : HoleInSections text h at) → sections_open d ≡ true
      → Opens p at text HeadedNow
  sections_opened (holes.in_header d) o = header_opened d o
  sections_opened (holes.after_header w) o = absurd (false≢true o)
  sections_opened (holes.in_rows {keys = keys} {is_array = a} {q = q} {text = text} w e d) o =
      let on = rows_opened d o in
      let i = line_carried e (rows_on d) on.parts in
      let r = header_carried w i.cut in
      let g = blanks_carried text r.cut in
      record {
        total = on.total;
        visible = on.visible;
        other = g.other;
        parts = g.cut.parts;
        holds = record {
          sections = record { at = q; header = keys; is_array = a; rows = on.holds.rows } ∷ on.holds.sections;
          headed = record {
            at = q;
            next = (header_bracket r.holds).0;
            bracket = g.holds ∙ (header_bracket r.holds).1;
            are = section (subst (λ (t : Text). IsHeader t q keys a i.other) (sym g.holds) r.holds) i.holds
                on.holds.lines on.holds.headed.are;
          };
        };
      }
  sections_opened (holes.later_section {keys = keys} {is_array = a} {rows = rows} {q = q} {text = text} w e rs d) o =
      let on = sections_opened d o in
      let h = on.holds.headed in
      let m = rows_carried rs (sections_on d) on.parts h.at h.next h.bracket in
      let i = line_carried e (rows_some rs (sections_on d)) m.parts in
      let r = header_carried w i.cut in
      let g = blanks_carried text r.cut in
      record {
        total = on.total;
        visible = on.visible;
        other = g.other;
        parts = g.cut.parts;
        holds = record {
          sections = record { at = q; header = keys; is_array = a; rows = rows } ∷ on.holds.sections;
          headed = record {
            at = q;
            next = (header_bracket r.holds).0;
            bracket = g.holds ∙ (header_bracket r.holds).1;
            are = section (subst (λ (t : Text). IsHeader t q keys a i.other) (sym g.holds) r.holds) i.holds m.holds
                h.are;
          };
        };
      }

  text_opened : {h : Hole} {text at : Text} (d : HoleInText text h at) → text_opens d ≡ true → Opens p at text Listed
  text_opened (holes.root d) o =
      let on = rows_opened d o in
      record {
        total = on.total;
        visible = on.visible;
        other = on.other;
        parts = on.parts;
        holds = record {
          sections = with_root on.holds.rows on.holds.sections;
          is = record {
            rows = on.holds.rows;
            headed = on.holds.sections;
            rest = on.holds.rest;
            root = on.holds.lines;
            others = on.holds.headed.are;
            all = refl;
          };
        };
      }
  text_opened (holes.headed {rows = rows} rs d) o =
      let on = sections_opened d o in
      let h = on.holds.headed in
      let m = rows_carried rs (sections_on d) on.parts h.at h.next h.bracket in
      record {
        total = on.total;
        visible = on.visible;
        other = m.other;
        parts = m.parts;
        holds = record {
          sections = with_root rows on.holds.sections;
          is = record {
            rows = rows;
            headed = on.holds.sections;
            rest = on.other;
            root = m.holds;
            others = h.are;
            all = refl;
          };
        };
      }

pub bracket_follows : (bytes : List ℕ) → IsUtf8 bytes → {h : Hole} {at : Text} (d : HoleInText (folded bytes) h at)
    → text_opens d ≡ true → GoesOn (folded bytes) at (Begins 91)
bracket_follows bytes utf8 {at = at} d o =
    let p = offset_in (length bytes) at in
    let g = text_opened p d o in
    let b = bytes_of false (91 ∷ g.total) g.visible bytes utf8 g.parts in
    let f = front_of g.parts in
    record {
      front = f.chars;
      before = f.text_is;
      bytes = b.bytes;
      utf8 = b.utf8;
      sections = g.holds.sections;
      grammar = subst (λ (t : Text). IsSectionList t g.holds.sections) (sym b.same) g.holds.is;
      rest = placed p (91 ∷ g.total);
      same = b.same ∙ f.other_is;
      next = record { offset = p; rest = placed (suc p) g.total; starts = refl };
    }
