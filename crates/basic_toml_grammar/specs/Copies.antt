-- Which strings of a text ask for a copy of their value, by characters and offsets, own: those with an escape, a
-- continuation, or a CR LF other than directly after a multiline opener. `Copies` of tokens says it of bytes.
use Rattle.std.specs.Prelude.{◌≡◌, ℕ, ◌+◌, ◌-◌, Bool, false, ◌||◌, nat_lt, if◌then◌else◌, List, [], ◌∷◌, length, drop}
use Rattle.std.specs.Prelude.{take}
use Rattle.std.specs.Char.{len_utf8}
use Rattle.std.specs.Str.{IsUtf8, IsCharBoundary}
use Rattle.basic_toml_tokens.specs.Text.{Text, text_at, offset_in}
use Rattle.basic_toml_tokens.specs.Strings.{after_feed, IsString}
use Rattle.basic_toml_tokens.specs.Reading.{between}
use Rattle.basic_toml_tokens.specs.Copies.{is_special, is_copied}

-- the characters of a text up to a rest
abbrev pub up_to : Text → Text → Text
up_to rest text = take (length text - length rest) text

-- how many bytes a character has that stands for itself between d; a backslash between `"` stands for none
abbrev pub width : ℕ → ℕ → ℕ
width d c = if is_special d c then 0 else len_utf8 c

-- One of the characters gives fewer bytes than it takes: a backslash between `"`, or a line feed that is CR LF. With
-- no offsets none does.
abbrev pub any_shrinks : ℕ → Text → Bool
any_shrinks d [] = false
any_shrinks d (x ∷ text) = nat_lt (x.0 + width d x.1) (offset_in 0 text) || any_shrinks d text

abbrev pub delimiter_of : Text → ℕ
delimiter_of [] = 0
delimiter_of (x ∷ text) = x.1

-- by the characters of the string
abbrev pub needs_copy : Bool → Text → Bool
needs_copy multiline source =
    any_shrinks (delimiter_of source) (if multiline then after_feed (drop 3 source) else source)

-- a string asks for a copy exactly where it does by its bytes
abbrev pub CopiesAgree : Type 0
CopiesAgree = (bytes : List ℕ) (at end p : ℕ) (multiline : Bool) (value : List ℕ) → IsUtf8 bytes
    → IsCharBoundary bytes at → IsCharBoundary bytes end
    → IsString (text_at bytes at) p multiline value (text_at bytes end)
    → is_copied multiline (between bytes at end) ≡ needs_copy multiline (up_to (text_at bytes end) (text_at bytes at))
