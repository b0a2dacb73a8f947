-- The value of a row in a text for people, own (TOML v0.5.0, "String" and "Array").
-- A string with a line feed stands between `"""`, after a line feed that is not part of it. Its line feeds stand for
-- themselves, and so does a `"` before another byte than `"`; the rest is as on one line.
-- An array that is not empty and does not fit into 80 columns with its key has a line for each element, after four
-- spaces and with a comma behind it. A column is a character.
use Rattle.std.specs.Prelude.{ℕ, zero, suc, Bool, true, false, cond, not, ◌&&◌, ◌||◌, ◌==◌, nat_le, nat_lt, List, []}
use Rattle.std.specs.Prelude.{◌∷◌, ◌++◌, codes}
use Rattle.std.specs.List.{list_any}
use Rattle.basic_toml_tokens.specs.Ascii as ascii
use Rattle.basic_toml_value.specs.Data.{Data, string, array, Items, no_items, item}
use Rattle.basic_toml_layout.specs.Texts.{quoted_byte, quoted}
use Rattle.basic_toml_layout.specs.Document.{inline, Style}

abbrev pub has_line_feed : List ℕ → Bool
has_line_feed bs = list_any (λ b. b == ascii.line_feed) bs

-- a byte follows, and it is no quotation mark
abbrev pub is_apart : List ℕ → Bool
is_apart [] = false
is_apart (b ∷ bs) = not (b == ascii.double_quote)

-- a byte that stands for itself in a string of several lines, before others
abbrev pub stands_in_lines : ℕ → List ℕ → Bool
stands_in_lines b bs = b == ascii.line_feed || (b == ascii.double_quote && is_apart bs)

abbrev pub line_byte : ℕ → List ℕ → List ℕ
line_byte b bs = cond (stands_in_lines b bs) (b ∷ []) (quoted_byte b)

abbrev pub line_bytes : List ℕ → List ℕ
line_bytes [] = []
line_bytes (b ∷ bs) = line_byte b bs ++ line_bytes bs

abbrev pub three_quotes : List ℕ
three_quotes = ascii.double_quote ∷ ascii.double_quote ∷ ascii.double_quote ∷ []

abbrev pub quoted_lines : List ℕ → List ℕ
quoted_lines bs = three_quotes ++ (ascii.line_feed ∷ (line_bytes bs ++ three_quotes))

-- the first byte of a character
abbrev pub is_first_byte : ℕ → Bool
is_first_byte b = nat_lt b 128 || nat_le 192 b

abbrev pub columns : List ℕ → ℕ
columns [] = zero
columns (b ∷ bs) = cond (is_first_byte b) (suc (columns bs)) (columns bs)

abbrev pub fits_line : List ℕ → Bool
fits_line bs = nat_le (columns bs) 80

-- an element on each line
abbrev pub element_lines : Items → List ℕ
element_lines no_items = []
element_lines (item x xs) = codes "    " ++ (inline x ++ (ascii.comma ∷ ascii.line_feed ∷ element_lines xs))

abbrev pub array_lines : Items → List ℕ
array_lines xs = ascii.left_bracket ∷ ascii.line_feed ∷ (element_lines xs ++ (ascii.right_bracket ∷ []))

abbrev pub pretty_string : List ℕ → List ℕ
pretty_string t = cond (has_line_feed t) (quoted_lines t) (quoted t)

-- the value of a row, after the key and the equals sign that its line begins with
abbrev pub pretty_value : List ℕ → Data → List ℕ
pretty_value front (string t) = pretty_string t
pretty_value front (array no_items) = inline (array no_items)
pretty_value front (array (item x xs)) =
    let line = inline (array (item x xs)) in
    cond (fits_line (front ++ line)) line (array_lines (item x xs))
pretty_value front x = inline x

abbrev pub pretty : Style
pretty = record { value = pretty_value; spaced = true }
