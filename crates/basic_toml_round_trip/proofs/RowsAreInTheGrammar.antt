-- Rows, as the layout writes them, are in the grammar.
use Rattle.std.proofs.Common.{◌≡◌, ℕ, List, ◌∷◌, refl, ap, sym, ◌∙◌, subst}
use Rattle.std.specs.Str.{IsUtf8}
use Rattle.basic_toml_tokens.specs.Text.{Text, is_comment, after_blanks}
use Rattle.basic_toml_value.specs.Data.{Data}
use Rattle.basic_toml_grammar.specs.Grammar.{IsRow, EndsLine, at_feed}
use Rattle.basic_toml_round_trip.proofs.SectionsOfTable.{raw_offset, raw, one_key}
use Rattle.basic_toml_round_trip.proofs.CharactersInFront.{onto, onto-append, no_blanks}
use Rattle.basic_toml_round_trip.proofs.CharactersOfLayout.{key_chars}
use Rattle.basic_toml_round_trip.proofs.KeysAreInTheGrammar.{key_front}
use Rattle.basic_toml_round_trip.proofs.ValuesAreInTheGrammar.{row_with}
use Rattle.basic_toml_round_trip.proofs.SpelledValues.{Spelled}
use Rattle.basic_toml_round_trip.proofs.CharactersOfTables.{row_chars}

-- a line feed ends a line
pub feed_ends : (rest : Text) → EndsLine is_comment ((0, 10) ∷ rest) rest
feed_ends rest = at_feed refl

pub row_stands : {bytes : List ℕ} {x : Data} (k : List ℕ) (value : Spelled bytes x) (rest : Text) → IsUtf8 k
    → IsRow is_comment (after_blanks (onto (row_chars k value) rest)) (one_key k) (raw_offset (raw x)) (raw x)
    ((0, 10) ∷ rest)
row_stands {x = x} k value rest u =
    let feed : Text = (0, 10) ∷ rest in
    let after : Text = onto value.chars_of feed in
    let equals : Text = (0, 32) ∷ (0, 61) ∷ (0, 32) ∷ after in
    let text : onto (row_chars k value) rest ≡ onto (key_chars k) equals = simp onto-append in
    let front : after_blanks (onto (key_chars k) equals) ≡ onto (key_chars k) equals =
    no_blanks _ (key_front k equals) in
    subst (λ t. IsRow is_comment t (one_key k) (raw_offset (raw x)) (raw x) feed) (sym (ap after_blanks text ∙ front))
    (row_with k after feed u (value.front feed) (value.stands feed refl))
