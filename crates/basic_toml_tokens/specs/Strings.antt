-- Strings by their pieces (TOML v0.5.0, "String"). Between `'` each character stands for itself; between `"` a
-- backslash begins an escape.
-- On one line a string stands between single delimiters. A multiline string begins with three, and a line feed directly
-- after them is dropped. In its body one or two delimiters are content, and three to five close it: those past three
-- are content. Of a longer run the first five are taken.
use Rattle.std.specs.Prelude.{◌≡◌, ◌≤◌, ◌<◌, ℕ, ◌-◌, Bool, true, false, not, ◌&&◌, ◌||◌, ◌==◌, min, if◌then◌else◌}
use Rattle.std.specs.Prelude.{List, [], ◌∷◌, ◌++◌, length, take, drop, replicate, Option, Some, None}
use Rattle.std.specs.Char.{is_digit, IsScalar}
use Rattle.std.specs.Str.Parse.{digits_value}
use Rattle.basic_toml_tokens.specs.Ascii as ascii
use Rattle.basic_toml_tokens.specs.Text.{Text, run, after_run, is_blank, is_comment, StartsWith}

-- what a string stands between, `'` or `"`, and whether between three of them
pub record Quotes : Type 0 where
  pub delimiter : ℕ
  pub multiline : Bool

abbrev pub is_quote : ℕ → Bool
is_quote c = c == ascii.double_quote || c == ascii.single_quote

-- how many delimiters stand at the front
abbrev pub count_of : ℕ → Text → ℕ
count_of d text = length (run (λ c. c == d) text)

-- A character that stands for itself: a tab, or any from U+0020 on but U+007F, the delimiter, and a backslash between
-- `"`; on several lines a line feed too.
abbrev pub is_plain : ℕ → ℕ → Bool
is_plain d c = (is_comment c && not (c == d)) && not (c == ascii.backslash && d == ascii.double_quote)

abbrev pub is_content : Quotes → ℕ → Bool
is_content k c = is_plain k.delimiter c || (k.multiline && c == ascii.line_feed)

-- the character that a letter after a backslash stands for
abbrev pub letter_value : ℕ → Option ℕ
letter_value c =
    if c == ascii.double_quote then Some ascii.double_quote else if c == ascii.backslash then Some ascii.backslash
    else if c == ascii.lower_b then Some ascii.backspace else if c == ascii.lower_f then Some ascii.form_feed
    else if c == ascii.lower_n then Some ascii.line_feed else if c == ascii.lower_r then Some ascii.carriage_return
    else if c == ascii.lower_t then Some ascii.tab else None

-- how many hexadecimal digits follow a u or a U
abbrev pub hex_count : ℕ → Option ℕ
hex_count c = if c == ascii.lower_u then Some 4 else if c == ascii.upper_u then Some 8 else None

abbrev pub is_hex : ℕ → Bool
is_hex c = is_digit c 16

-- the number that the first n digits write
abbrev pub hex_value : ℕ → Text → ℕ
hex_value n text = digits_value 16 (take n (run is_hex text))

-- a blank or a line feed
abbrev pub is_space : ℕ → Bool
is_space c = is_blank c || c == ascii.line_feed

-- A piece of a body, the characters that it stands for, and what stands after it.
pub data IsPiece (k : Quotes) : Text → List ℕ → Text → Type 0 where
  content : {p c : ℕ} {text rest : Text} → StartsWith c text p rest → is_content k c ≡ true
      → IsPiece k text (c ∷ []) rest
  delimiters : {n : ℕ} {text : Text} → k.multiline ≡ true → count_of k.delimiter text ≡ n → 0 < n → n < 3
      → IsPiece k text (replicate n k.delimiter) (drop n text)
  letter : {p q c v : ℕ} {text next rest : Text} → k.delimiter ≡ ascii.double_quote
      → StartsWith ascii.backslash text p next → StartsWith c next q rest → letter_value c ≡ Some v
      → IsPiece k text (v ∷ []) rest
  unicode : {p q c n : ℕ} {text next digits : Text} → k.delimiter ≡ ascii.double_quote
      → StartsWith ascii.backslash text p next → StartsWith c next q digits → hex_count c ≡ Some n
      → n ≤ length (run is_hex digits) → IsScalar (hex_value n digits)
      → IsPiece k text (hex_value n digits ∷ []) (drop n digits)
  -- a backslash, blanks, a line feed, and all blanks and line feeds that follow stand for nothing
  continuation : {p q : ℕ} {text next after : Text} → k.delimiter ≡ ascii.double_quote → k.multiline ≡ true
      → StartsWith ascii.backslash text p next → StartsWith ascii.line_feed (after_run is_blank next) q after
      → IsPiece k text [] (after_run is_space after)

-- pieces one after another
pub data Pieces (k : Quotes) : Text → List ℕ → Text → Type 0 where
  none : {text : Text} → Pieces k text [] text
  piece : {text next rest : Text} {chars value : List ℕ} → IsPiece k text chars next → Pieces k next value rest
      → Pieces k text (chars ++ value) rest

-- the end of a body, and what of it is content
pub data Closes (k : Quotes) : Text → List ℕ → Text → Type 0 where
  one : {p : ℕ} {text rest : Text} → k.multiline ≡ false → StartsWith k.delimiter text p rest → Closes k text [] rest
  several : {n : ℕ} {text : Text} → k.multiline ≡ true → count_of k.delimiter text ≡ n → 3 ≤ n
      → Closes k text (replicate (min n 5 - 3) k.delimiter) (drop (min n 5) text)

-- after a line feed, if one stands there
abbrev pub after_feed : Text → Text
after_feed [] = []
after_feed (x ∷ text) = if x.1 == ascii.line_feed then text else x ∷ text

-- the delimiters that open a string at p, and the body after them: multiline exactly where three stand there
pub data Opens : Text → ℕ → Quotes → Text → Type 0 where
  one_line : {p d : ℕ} {text next : Text} → StartsWith d text p next → is_quote d ≡ true → count_of d text < 3
      → Opens text p (record { delimiter = d; multiline = false }) next
  multiline : {p d : ℕ} {text next : Text} → StartsWith d text p next → is_quote d ≡ true → 3 ≤ count_of d text
      → Opens text p (record { delimiter = d; multiline = true }) (after_feed (drop 2 next))

-- A string at p, multiline or not, the characters that it stands for, and what stands after it.
pub record IsString (text : Text) (p : ℕ) (multiline : Bool) (value : List ℕ) (rest : Text) : Type 0 where
  pub kind : Quotes
  pub body : Text
  pub opens : Opens text p kind body
  pub lines : kind.multiline ≡ multiline
  pub inside : List ℕ
  pub closer : Text
  pub pieces : Pieces kind body inside closer
  pub tail : List ℕ
  pub closes : Closes kind closer tail rest
  pub stands_for : value ≡ inside ++ tail
