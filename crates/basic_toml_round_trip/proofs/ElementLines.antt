-- An array with an element on each line is in the grammar, and its bytes are the UTF-8 of the same in characters.
use Rattle.std.proofs.Common.{◌≡◌, ℕ, List, [], ◌∷◌, codes, refl, ap, sym, ◌∙◌, subst}
use Rattle.basic_toml_tokens.specs.Text.{Text, is_comment}
use Rattle.basic_toml_value.specs.Data.{Data, Items, no_items, item}
use Rattle.basic_toml_grammar.specs.Sections.{Raw}
use Rattle.basic_toml_grammar.specs.Grammar as g
use Rattle.basic_toml_grammar.specs.Grammar.{after_gap, IsValue, IsElements}
use Rattle.basic_toml_layout.specs.Pretty.{element_lines, array_lines}
use Rattle.basic_toml_round_trip.proofs.LaidOut.{IsInRow, AreInRow}
use Rattle.basic_toml_round_trip.proofs.SectionsOfTable.{raw_items}
use Rattle.basic_toml_round_trip.proofs.CharactersInFront.{onto, onto-append}
use Rattle.basic_toml_round_trip.proofs.CharactersOfLayout.{decoded_items, value_chars}
use Rattle.basic_toml_round_trip.proofs.ValuesAreInTheGrammar.{value_front, value_stands, no_gap}
use Rattle.basic_toml_round_trip.proofs.QuotedIsUtf8.{Spelt, spelt-append, spelt_plain}
use Rattle.basic_toml_round_trip.proofs.ValuesAreUtf8.{value_spelt}

-- in characters
abbrev pub element_lines_chars : Items → List ℕ
element_lines_chars xs = element_lines (decoded_items xs)

abbrev pub array_lines_chars : Items → List ℕ
array_lines_chars xs = array_lines (decoded_items xs)

-- elements and the closing bracket
abbrev lines_on : Items → Text → Text
lines_on xs rest = onto (element_lines_chars xs) ((0, 93) ∷ rest)

-- what stands after an element, before others
abbrev after_element : Items → Text → Text
after_element xs rest = (0, 44) ∷ (0, 10) ∷ lines_on xs rest

-- no more than a gap stands before an element
past_indent : (x : Data) (xs : Items) (rest : Text) → IsInRow x
    → after_gap is_comment (lines_on (item x xs) rest) ≡ onto (value_chars x) (after_element xs rest)
past_indent x xs rest h =
    ap (after_gap is_comment) (onto-append (value_chars x) (44 ∷ 10 ∷ element_lines_chars xs) ((0, 93) ∷ rest))
    ∙ no_gap (onto (value_chars x) (after_element xs rest)) (value_front x (after_element xs rest) h)

element_lines_stand : (xs : Items) (rest : Text) → AreInRow xs
    → IsElements is_comment (after_gap is_comment (lines_on xs rest)) (raw_items xs) rest
element_lines_stand no_items rest h = g.close refl
element_lines_stand (item x xs) rest h =
    subst (λ t. IsElements is_comment t (raw_items (item x xs)) rest) (sym (past_indent x xs rest h.0))
    (g.and_more (value_stands x (after_element xs rest) h.0 refl) refl (element_lines_stand xs rest h.1))

pub array_lines_stand : (xs : Items) (rest : Text) → AreInRow xs
    → IsValue is_comment (onto (array_lines_chars xs) rest) 0 (Raw.array (raw_items xs)) rest
array_lines_stand xs rest h =
    subst (λ t. IsValue is_comment ((0, 91) ∷ (0, 10) ∷ t) 0 (Raw.array (raw_items xs)) rest)
    (sym (onto-append (element_lines_chars xs) (93 ∷ []) rest)) (g.array refl (element_lines_stand xs rest h))

-- and in bytes
element_lines_spelt : (xs : Items) → AreInRow xs → Spelt (element_lines xs) (element_lines_chars xs)
element_lines_spelt no_items h = spelt_plain [] refl
element_lines_spelt (item x xs) h =
    spelt-append (spelt_plain (codes "    ") refl)
    (spelt-append (value_spelt x h.0) (spelt-append (spelt_plain (44 ∷ 10 ∷ []) refl) (element_lines_spelt xs h.1)))

pub array_lines_spelt : (xs : Items) → AreInRow xs → Spelt (array_lines xs) (array_lines_chars xs)
array_lines_spelt xs h =
    spelt-append (spelt_plain (91 ∷ 10 ∷ []) refl)
    (spelt-append (element_lines_spelt xs h) (spelt_plain (93 ∷ []) refl))
