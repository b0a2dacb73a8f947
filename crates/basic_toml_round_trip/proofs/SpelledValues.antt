-- Bytes that spell a value: in characters they are the value, in the grammar. So the value of a row is, on one line.
use Rattle.std.proofs.Common.{◌≡◌, ℕ, true, List}
use Rattle.basic_toml_tokens.specs.Text.{Text, is_comment}
use Rattle.basic_toml_value.specs.Data.{Data}
use Rattle.basic_toml_layout.specs.Document.{inline, Style, plain}
use Rattle.basic_toml_grammar.specs.Grammar.{IsValue}
use Rattle.basic_toml_round_trip.proofs.LaidOut.{IsInRow}
use Rattle.basic_toml_round_trip.proofs.SectionsOfTable.{raw_offset, raw}
use Rattle.basic_toml_round_trip.proofs.CharactersInFront.{onto, stops}
use Rattle.basic_toml_round_trip.proofs.CharactersOfLayout.{value_chars}
use Rattle.basic_toml_round_trip.proofs.WordsAreValues.{is_gap}
use Rattle.basic_toml_round_trip.proofs.ValuesAreInTheGrammar.{ends_value, value_front, value_stands}
use Rattle.basic_toml_round_trip.proofs.QuotedIsUtf8.{Spelt}
use Rattle.basic_toml_round_trip.proofs.ValuesAreUtf8.{value_spelt}

-- the characters begin with no blank, line feed or `#`, and are the value before what may stand after it
pub record Spelled (bytes : List ℕ) (x : Data) : Type 0 where
  pub chars_of : List ℕ
  pub spelt : Spelt bytes chars_of
  pub front : (rest : Text) → stops is_gap (onto chars_of rest) ≡ true
  pub stands : (rest : Text) → ends_value rest ≡ true
      → IsValue is_comment (onto chars_of rest) (raw_offset (raw x)) (raw x) rest

pub plain_spelled : (x : Data) → IsInRow x → Spelled (inline x) x
plain_spelled x h = record {
  chars_of = value_chars x;
  spelt = value_spelt x h;
  front = λ rest. value_front x rest h;
  stands = λ rest e. value_stands x rest h e;
}

-- each value of a row, as this style has it, is spelled
abbrev pub SpellsValues : Style → Type 0
SpellsValues style = (front : List ℕ) (x : Data) → IsInRow x → Spelled (style.value front x) x

pub plain_spells : SpellsValues plain
plain_spells front x h = plain_spelled x h
