-- Headers, as the layout writes them, are in the grammar.
use Rattle.std.proofs.Common.{◌≡◌, true, false, List, ◌∷◌, refl, sym, subst, ℕ}
use Rattle.basic_toml_tokens.specs.Text.{Text, after_blanks}
use Rattle.basic_toml_grammar.specs.Sections.{KeyTexts}
use Rattle.basic_toml_grammar.specs.Grammar.{IsKeys, IsHeader, table, array_of_tables}
use Rattle.basic_toml_round_trip.proofs.SectionsOfTable.{backwards}
use Rattle.basic_toml_round_trip.proofs.CharactersInFront.{onto, no_blanks}
use Rattle.basic_toml_round_trip.proofs.CharactersOfLayout.{path_chars}
use Rattle.basic_toml_round_trip.proofs.KeysAreInTheGrammar.{ends_key, AreTexts, keys_stand, path_front}

-- the keys after a bracket
inside : (k : List ℕ) (ks : KeyTexts) (rest : Text) → AreTexts (k ∷ ks) → ends_key rest ≡ true
    → IsKeys (after_blanks (onto (path_chars (k ∷ ks)) rest)) (backwards (k ∷ ks)) rest
inside k ks rest u e =
    subst (λ t. IsKeys t (backwards (k ∷ ks)) rest) (sym (no_blanks _ (path_front k ks rest)))
    (keys_stand k ks rest u e)

pub table_header_stands : (k : List ℕ) (ks : KeyTexts) (rest : Text) → AreTexts (k ∷ ks)
    → IsHeader ((0, 91) ∷ onto (path_chars (k ∷ ks)) ((0, 93) ∷ rest)) 0 (backwards (k ∷ ks)) false rest
table_header_stands k ks rest u = table refl (inside k ks ((0, 93) ∷ rest) u refl) refl

pub element_header_stands : (k : List ℕ) (ks : KeyTexts) (rest : Text) → AreTexts (k ∷ ks)
    → IsHeader ((0, 91) ∷ (0, 91) ∷ onto (path_chars (k ∷ ks)) ((0, 93) ∷ (0, 93) ∷ rest)) 0 (backwards (k ∷ ks)) true
    rest
element_header_stands k ks rest u = array_of_tables refl refl (inside k ks ((0, 93) ∷ (0, 93) ∷ rest) u refl) refl refl
