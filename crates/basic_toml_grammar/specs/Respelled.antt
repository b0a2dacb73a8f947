-- Texts written in another way: the same characters elsewhere, CR LF for LF, U+FEFF in front.
use Rattle.std.specs.Prelude.{ℕ, Bool, ◌==◌, if◌then◌else◌, List, [], ◌∷◌, ◌++◌, map, encode_utf8}
use Rattle.std.specs.List.{list_any}
use Rattle.std.specs.Str.{chars}
use Rattle.basic_toml_tokens.specs.Ascii as ascii
use Rattle.basic_toml_tokens.specs.Text.{Text, first_of}

-- the characters of a text, without their offsets
abbrev pub characters : Text → List ℕ
characters text = map (λ x. x.1) text

-- each LF as CR LF
abbrev pub with_returns : List ℕ → List ℕ
with_returns [] = []
with_returns (b ∷ bytes) = if b == ascii.line_feed then 13 ∷ ascii.line_feed ∷ with_returns bytes else b
    ∷ with_returns bytes

abbrev pub has_return : List ℕ → Bool
has_return bytes = list_any (λ b. b == ascii.carriage_return) bytes

-- U+FEFF in front
abbrev pub with_byte_order_mark : List ℕ → List ℕ
with_byte_order_mark bytes = encode_utf8 0xFEFF ++ bytes

abbrev pub has_byte_order_mark : List ℕ → Bool
has_byte_order_mark bytes = first_of (chars bytes) == 0xFEFF
