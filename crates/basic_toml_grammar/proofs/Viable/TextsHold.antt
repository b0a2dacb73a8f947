-- The same of lines, headers and whole texts; where a line ends, the text may be over, too.
use Rattle.std.proofs.Common.{◌≡◌, ℕ, ◌==◌, Bool, List, [], ◌∷◌, refl, ap, sym, ◌∙◌}
use Rattle.std.proofs.Common.{subst, arith}
use Rattle.basic_toml_tokens.specs.Text.{Text, is_comment, after_blanks}
use Rattle.basic_toml_grammar.specs.Sections.{Key, Rows, Section}
use Rattle.basic_toml_grammar.specs.Grammar.{IsKeys, EndsLine, at_feed, at_end, IsRows, over, header_next}
use Rattle.basic_toml_grammar.specs.Grammar.{empty_line, row_line, IsHeader, table, array_of_tables, IsSections, no_more}
use Rattle.basic_toml_grammar.specs.Grammar.{section, IsSectionList, after_comment_by}
use Rattle.basic_toml_grammar.specs.Holes as holes
use Rattle.basic_toml_grammar.specs.Holes.{Hole, HoleInKeys, HoleInRow, HoleInRows, HoleInHeader, HoleInSections}
use Rattle.basic_toml_grammar.specs.Holes.{HoleInText, fits, Fits}
use Rattle.basic_toml_grammar.proofs.Grammar.GrammarIsUnambiguous.{sign_same, no_sign, heads_not, keys_same, keys_heads}
use Rattle.basic_toml_grammar.proofs.Grammar.GrammarIsUnambiguous.{row_heads, row_same, word_sign, row_or_end, ends_same}
use Rattle.basic_toml_grammar.proofs.Grammar.GrammarIsUnambiguous.{bracket_or_end, no_row, rows_same, no_header}
use Rattle.basic_toml_grammar.proofs.Grammar.GrammarIsUnambiguous.{header_same}
use Rattle.basic_toml_grammar.proofs.Grammar.ReaderIsComplete.{ends_found}
use Rattle.basic_toml_grammar.proofs.Viable.HolesHold.{Fills, filled, sign_fits, clash, missed, keys_hold}
use Rattle.basic_toml_grammar.proofs.Viable.HolesHold.{keys_next, keys_no_value, row_holds}

-- a character that fits; or the end of the text, where a line may end
pub data FitsOrEnds : Hole → Text → Type 0 where
  fit : {h : Hole} {at : Text} → Fills h at → FitsOrEnds h at
  ends : {at : Text} → at ≡ [] → FitsOrEnds Hole.after_line at

pub not_at_end : {h : Hole} {x : ℕ × ℕ} {at text : Text} → FitsOrEnds h at → at ≡ x ∷ text → Fits h at
not_at_end (fit f) e = f.fits
not_at_end {x = x} {text = text} (ends n) e = let over : [] ≡ x ∷ text = sym n ∙ e in cc

line_fits : {mid mid' next : Text} → mid ≡ mid' → EndsLine is_comment mid' next
    → FitsOrEnds Hole.after_line (after_comment_by is_comment (after_blanks mid))
line_fits m (at_feed s) =
    fit (filled (λ h. cc) (λ h. cc)
    (sign_fits (ap (λ (t : Text). after_comment_by is_comment (after_blanks t)) m ∙ s) refl))
line_fits m (at_end s) = ends (ap (λ (t : Text). after_comment_by is_comment (after_blanks t)) m ∙ s)

rows_hold : {h : Hole} {text at r : Text} {rs : Rows} → HoleInRows text h at → IsRows is_comment text rs r
    → FitsOrEnds h at
rows_hold (holes.this_row b c m d) over = absurd (clash (sym m ∙ ends_found {text = []} (at_end refl)))
rows_hold (holes.this_row b c m d) (header_next e) = absurd (missed b e refl)
rows_hold (holes.this_row b c m d) (empty_line e rs) = absurd (clash (sym m ∙ ends_found e))
rows_hold (holes.this_row b c m d) (row_line x e rs) = fit (row_holds d x)
rows_hold (holes.after_comment s) over = absurd (no_sign refl s)
rows_hold (holes.after_comment s) (header_next e) = absurd (word_sign (λ c. c == 35) s refl e refl)
rows_hold (holes.after_comment s) (empty_line e rs) = line_fits refl e
rows_hold (holes.after_comment s) (row_line y e rs) = absurd (heads_not (row_heads is_comment y) s refl)
rows_hold (holes.after_row x) over = absurd (no_row is_comment x)
rows_hold (holes.after_row x) (header_next e) = absurd (heads_not (row_heads is_comment x) e refl)
rows_hold (holes.after_row x) (empty_line e rs) = absurd (row_or_end is_comment x e)
rows_hold (holes.after_row x) (row_line y e rs) = line_fits (row_same is_comment x y).3 e
rows_hold (holes.after_empty e d) (header_next f) = absurd (bracket_or_end is_comment f e)
rows_hold {h = h} {at = at} (holes.after_empty e d) (empty_line f ys) =
    rows_hold (subst (λ (t : Text). HoleInRows t h at) (ends_same is_comment e f) d) ys
rows_hold (holes.after_empty e d) (row_line y f ys) = absurd (row_or_end is_comment y e)
rows_hold (holes.later_row x e d) over = absurd (no_row is_comment x)
rows_hold (holes.later_row x e d) (header_next f) = absurd (heads_not (row_heads is_comment x) f refl)
rows_hold (holes.later_row x e d) (empty_line f rs) = absurd (row_or_end is_comment x f)
rows_hold {h = h} {at = at} (holes.later_row {next = n} x e d) (row_line y f ys) =
    let m = ends_same is_comment (subst (λ (t : Text). EndsLine is_comment t n) (row_same is_comment x y).3 e) f in
    rows_hold (subst (λ (t : Text). HoleInRows t h at) m d) ys

pub header_no_value : {h : Hole} {text at : Text} → HoleInHeader text h at → h ≡ Hole.value → ⊥
header_no_value (holes.table_keys e m d) h = keys_no_value d h
header_no_value (holes.table_end e ks) h = cc
header_no_value (holes.array_keys e b d) h = keys_no_value d h
header_no_value (holes.array_end e b ks) h = cc
header_no_value (holes.array_last e b ks s) h = cc

header_holds : {h : Hole} {text at r : Text} {ks : List Key} {p : ℕ} {a : Bool} → HoleInHeader text h at
    → IsHeader text p ks a r → Fills h at
header_holds {h = h} {at = at} (holes.table_keys e m d) (table f xs g) =
    keys_hold (subst (λ (t : Text). HoleInKeys (after_blanks t) h at) (sign_same e f).2 d) xs g (λ e. omega (arith, e))
header_holds (holes.table_keys e m d) (array_of_tables f b xs g i) =
    absurd (missed m ((sign_same e f).2 ∙ b) refl)
header_holds (holes.table_end {keys = ks} {mid = mid} e ks') (table f xs g) =
    filled (λ h. cc) (λ h. cc)
    (keys_next (subst (λ (t : Text). IsKeys (after_blanks t) ks mid) (sign_same e f).2 ks') xs g
    (λ e. omega (arith, e)) refl refl)
header_holds (holes.table_end {keys = ks} {mid = mid} e ks') (array_of_tables f b xs g i) =
    absurd (heads_not (keys_heads (subst (λ (t : Text). IsKeys (after_blanks t) ks mid) (sign_same e f).2 ks'))
    (ap after_blanks b) refl)
header_holds (holes.array_keys e b d) (table f xs g) =
    absurd (heads_not (keys_heads xs) (ap after_blanks (sym (sign_same e f).2 ∙ b)) refl)
header_holds {h = h} {at = at} (holes.array_keys e b d) (array_of_tables f c xs g i) =
    let m = sign_same (sym (sign_same e f).2 ∙ b) c in
    keys_hold (subst (λ (t : Text). HoleInKeys (after_blanks t) h at) m.2 d) xs g (λ e. omega (arith, e))
header_holds (holes.array_end e b ks) (table f xs g) =
    absurd (heads_not (keys_heads xs) (ap after_blanks (sym (sign_same e f).2 ∙ b)) refl)
header_holds (holes.array_end {keys = ks} {mid = mid} e b ks') (array_of_tables f c xs g i) =
    let m = sign_same (sym (sign_same e f).2 ∙ b) c in
    filled (λ h. cc) (λ h. cc)
    (keys_next (subst (λ (t : Text). IsKeys (after_blanks t) ks mid) m.2 ks') xs g (λ e. omega (arith, e)) refl refl)
header_holds (holes.array_last e b ks s) (table f xs g) =
    absurd (heads_not (keys_heads xs) (ap after_blanks (sym (sign_same e f).2 ∙ b)) refl)
header_holds (holes.array_last {keys = ks} {mid = mid} e b ks' s) (array_of_tables f c xs g i) =
    let m = sign_same (sym (sign_same e f).2 ∙ b) c in
    let k = keys_same (subst (λ (t : Text). IsKeys (after_blanks t) ks mid) m.2 ks') xs s (λ e. omega (arith, e)) g
    (λ e. omega (arith, e)) in
    let l = sign_same (sym (ap after_blanks k.1) ∙ s) g in
    filled (λ h. cc) (λ h. cc) (sign_fits (l.2 ∙ i) refl)

sections_hold : {h : Hole} {text at : Text} {ss : List Section} → HoleInSections text h at
    → IsSections is_comment text ss → FitsOrEnds h at
sections_hold (holes.in_header d) no_more = absurd (no_hole d)
  where
    no_hole : {h : Hole} {at : Text} → HoleInHeader [] h at → ⊥
    no_hole (holes.table_keys e m d) = no_sign refl e
    no_hole (holes.table_end e ks) = no_sign refl e
    no_hole (holes.array_keys e b d) = no_sign refl e
    no_hole (holes.array_end e b ks) = no_sign refl e
    no_hole (holes.array_last e b ks s) = no_sign refl e
sections_hold (holes.in_header d) (section x e rs ss) = fit (header_holds d x)
sections_hold (holes.after_header y) no_more = absurd (no_header y)
sections_hold (holes.after_header y) (section x e rs ss) = line_fits (header_same y x).3 e
sections_hold (holes.in_rows y f d) no_more = absurd (no_header y)
sections_hold {h = h} {at = at} (holes.in_rows {next = n} y f d) (section x e rs ss) =
    let m = ends_same is_comment (subst (λ (t : Text). EndsLine is_comment t n) (header_same y x).3 f) e in
    rows_hold (subst (λ (t : Text). HoleInRows t h at) m d) rs
sections_hold (holes.later_section y f qs d) no_more = absurd (no_header y)
sections_hold {h = h} {at = at} (holes.later_section {rows = os} {next = n} {rest = r} y f qs d) (section x e rs ss) =
    let m = ends_same is_comment (subst (λ (t : Text). EndsLine is_comment t n) (header_same y x).3 f) e in
    let k = rows_same is_comment (subst (λ (t : Text). IsRows is_comment t os r) m qs) rs in
    sections_hold (subst (λ (t : Text). HoleInSections t h at) k.1 d) ss

-- in a text of the grammar
pub text_holds : {h : Hole} {text at : Text} {ss : List Section} → HoleInText text h at → IsSectionList text ss
    → FitsOrEnds h at
text_holds (holes.root d) g = rows_hold d g.root
text_holds {h = h} {at = at} (holes.headed rs d) g =
    sections_hold (subst (λ (t : Text). HoleInSections t h at) (rows_same is_comment rs g.root).1 d) g.others
