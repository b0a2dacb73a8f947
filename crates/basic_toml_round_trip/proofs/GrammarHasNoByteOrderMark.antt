-- No text of the grammar begins with U+FEFF.
use Rattle.std.proofs.Common.{◌≡◌, ℕ, ◌==◌, Bool, true, false, List, [], ◌∷◌, refl, ap, ◌∙◌, subst}
use Rattle.std.proofs.lemmas.Bool.{false≢true, eqb-true}
use Rattle.basic_toml_tokens.specs.Text.{Text, first_of, is_keylike, is_comment}
use Rattle.basic_toml_tokens.specs.Strings.{is_quote, Quotes, Opens, one_line, multiline}
use Rattle.basic_toml_grammar.specs.Sections.{Key, Raw, Rows, Section}
use Rattle.basic_toml_grammar.specs.Grammar.{IsKey, bare, quoted, one, more, IsRow, assigned, EndsLine, at_feed}
use Rattle.basic_toml_grammar.specs.Grammar.{at_end, IsRows, header_next, empty_line, row_line, IsSectionList}
use Rattle.basic_toml_round_trip.proofs.CharactersInFront.{onto}

abbrev marked : ℕ → Text → Text
marked p text = (p, 0xFEFF) ∷ text

abbrev front : Text → ℕ
front [] = 0
front (x ∷ text) = x.1

no_string : {p q : ℕ} {k : Quotes} {text body : Text} → Opens (marked p text) q k body → ⊥
no_string (one_line s quote few) = false≢true (ap (λ t. is_quote (front t)) s ∙ quote)
no_string (multiline s quote many) = false≢true (ap (λ t. is_quote (front t)) s ∙ quote)

no_key : {p : ℕ} {text rest : Text} {k : Key} → IsKey (marked p text) k rest → ⊥
no_key (bare s keylike) = false≢true (ap (λ t. is_keylike (front t)) s ∙ keylike)
no_key (quoted s) = no_string s.opens

no_row : {p q : ℕ} {text rest : Text} {keys : List Key} {v : Raw} → IsRow is_comment (marked p text) keys q v rest → ⊥
no_row (assigned (one k) sign value) = no_key k
no_row (assigned (more k sign keys) equals value) = no_key k

no_end : {p : ℕ} {text rest : Text} → EndsLine is_comment (marked p text) rest → ⊥
no_end (at_feed s) = false≢true (ap (λ t. front t == 10) s)
no_end (at_end e) = cc

no_rows : {p : ℕ} {text rest : Text} {rs : Rows} → IsRows is_comment (marked p text) rs rest → ⊥
no_rows (header_next s) = false≢true (ap (λ t. front t == 91) s)
no_rows (empty_line e rows) = no_end e
no_rows (row_line row e rows) = no_row row

pub no_mark : (cs : List ℕ) (sections : List Section) → IsSectionList (onto cs []) sections
    → (first_of cs == 0xFEFF) ≡ false
no_mark [] sections g = refl
no_mark (c ∷ cs) sections g = go (c == 0xFEFF) refl
  where
    go : (b : Bool) → (c == 0xFEFF) ≡ b → b ≡ false
    go false e = refl
    go true e =
        absurd
        (no_rows (subst (λ c. IsRows is_comment ((0, c) ∷ onto cs []) g.rows g.rest) (eqb-true c 0xFEFF e) g.root))
