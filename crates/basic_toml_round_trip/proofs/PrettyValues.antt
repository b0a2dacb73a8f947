-- A value as it is written for people spells it.
use Rattle.std.proofs.Common.{ℕ, false, List, ◌++◌, refl, subst}
use Rattle.std.specs.Str.{chars, IsUtf8}
use Rattle.std.proofs.lemmas.Bool.{and_parts, cond_both}
use Rattle.std.proofs.lemmas.Str.{encodes-chars}
use Rattle.basic_toml_tokens.specs.Text.{is_comment}
use Rattle.basic_toml_value.specs.Data as d
use Rattle.basic_toml_value.specs.Data.{Data, Items, no_items, item}
use Rattle.basic_toml_layout.specs.Texts.{quoted}
use Rattle.basic_toml_layout.specs.Document.{inline}
use Rattle.basic_toml_layout.specs.Style.{style_of}
use Rattle.basic_toml_layout.specs.declared.data.style.Style.{Style}
use Rattle.basic_toml_layout.specs.declared.data.style.Style.TheVariants.{Plain, Pretty}
use Rattle.basic_toml_grammar.specs.Sections.{Raw}
use Rattle.basic_toml_grammar.specs.Grammar.{IsValue}
use Rattle.basic_toml_layout.specs.Pretty.{has_line_feed, quoted_lines, fits_line, array_lines, pretty_value}
use Rattle.basic_toml_round_trip.proofs.LaidOut.{IsInRow, AreInRow}
use Rattle.basic_toml_round_trip.proofs.CharactersInFront.{onto}
use Rattle.basic_toml_round_trip.proofs.ValuesAreInTheGrammar.{string_stands}
use Rattle.basic_toml_round_trip.proofs.LinesAreAString.{lines_are_string}
use Rattle.basic_toml_round_trip.proofs.LinesAreUtf8.{lines_spelt}
use Rattle.basic_toml_round_trip.proofs.ElementLines.{array_lines_chars, array_lines_stand, array_lines_spelt}
use Rattle.basic_toml_round_trip.proofs.SpelledValues.{Spelled, plain_spelled, SpellsValues, plain_spells}

lines_spelled : (t : List ℕ) → IsUtf8 t → Spelled (quoted_lines t) (d.string t)
lines_spelled t u = record {
  chars_of = quoted_lines (chars t);
  spelt = lines_spelt t u;
  front = λ rest. refl;
  stands = λ rest e.
      subst (λ v. IsValue is_comment (onto (quoted_lines (chars t)) rest) 0 (Raw.string v false) rest)
      (encodes-chars t u)
      (string_stands (quoted_lines (chars t)) rest (lines_are_string (chars t) rest (and_parts _ _ e).1));
}

array_spelled : (xs : Items) → AreInRow xs → Spelled (array_lines xs) (d.array xs)
array_spelled xs h = record {
  chars_of = array_lines_chars xs;
  spelt = array_lines_spelt xs h;
  front = λ rest. refl;
  stands = λ rest e. array_lines_stand xs rest h;
}

pretty_spelled : (front : List ℕ) (x : Data) → IsInRow x → Spelled (pretty_value front x) x
pretty_spelled front (d.string t) h =
    cond_both (has_line_feed t) (quoted_lines t) (quoted t) (λ bytes. Spelled bytes (d.string t))
    (λ _. lines_spelled t h) (λ _. plain_spelled (d.string t) h)
pretty_spelled front (d.array no_items) h = plain_spelled (d.array no_items) h
pretty_spelled front (d.array (item x xs)) h =
    let array : Data = d.array (item x xs) in
    cond_both (fits_line (front ++ inline array)) (inline array) (array_lines (item x xs))
    (λ bytes. Spelled bytes array) (λ _. plain_spelled array h) (λ _. array_spelled (item x xs) h)
pretty_spelled front (d.integer z) h = plain_spelled (d.integer z) h
pretty_spelled front (d.float t) h = plain_spelled (d.float t) h
pretty_spelled front (d.boolean b) h = plain_spelled (d.boolean b) h
pretty_spelled front (d.table ms) h = plain_spelled (d.table ms) h

-- so each style does
pub style_spells : (style : Style) → SpellsValues (style_of style)
style_spells Plain = plain_spells
style_spells Pretty = pretty_spelled
