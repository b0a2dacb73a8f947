-- The folded text (TOML v0.5.0, "Spec"): characters with their offsets, an offset being a byte offset. One U+FEFF at
-- the start is skipped. A CR directly followed by LF is one line feed at the offset of the CR; every other character
-- stands at its own offset.
use Rattle.std.specs.Prelude.{◌≡◌, ℕ, ◌+◌, Bool, true, false, not, ◌&&◌, ◌||◌, ◌==◌, nat_le, if◌then◌else◌, List, []}
use Rattle.std.specs.Prelude.{◌∷◌, drop}
use Rattle.std.specs.Char.{is_ascii_alphanumeric, len_utf8}
use Rattle.std.specs.Str.{chars}
use Rattle.basic_toml_tokens.specs.Ascii as ascii

-- characters with their offsets
abbrev pub Text : Type 0
Text = List (ℕ × ℕ)

-- the first character, or 0
abbrev pub first_of : List ℕ → ℕ
first_of [] = 0
first_of (c ∷ cs) = c

-- The characters folded, the first at `at`. `taken` says that a CR before them took the LF that comes first.
abbrev pub folded_from : Bool → ℕ → List ℕ → Text
folded_from taken at [] = []
folded_from true at (c ∷ cs) = folded_from false (at + len_utf8 c) cs
folded_from false at (c ∷ cs) =
    if c == ascii.carriage_return && first_of cs == ascii.line_feed then (at, ascii.line_feed)
    ∷ folded_from true (at + 1) cs
    else (at, c) ∷ folded_from false (at + len_utf8 c) cs

-- the text from an offset on
abbrev pub text_at : List ℕ → ℕ → Text
text_at bytes at = folded_from false at (chars (drop at bytes))

-- after one U+FEFF, whose three bytes count
abbrev pub start_of : List ℕ → ℕ
start_of bytes = if first_of (chars bytes) == 0xFEFF then 3 else 0

abbrev pub folded : List ℕ → Text
folded bytes = text_at bytes (start_of bytes)

-- the offset of the first character, or the end
abbrev pub offset_in : ℕ → Text → ℕ
offset_in end [] = end
offset_in end (x ∷ text) = x.0

-- the character c stands at p, and then the rest
abbrev pub StartsWith : ℕ → Text → ℕ → Text → Type 0
StartsWith c text p rest = text ≡ (p, c) ∷ rest

-- the longest run of characters that pass
abbrev pub run : (ℕ → Bool) → Text → List ℕ
run p [] = []
run p (x ∷ text) = if p x.1 then x.1 ∷ run p text else []

-- what stands after it
abbrev pub after_run : (ℕ → Bool) → Text → Text
after_run p [] = []
after_run p (x ∷ text) = if p x.1 then after_run p text else x ∷ text

-- a space or a tab
abbrev pub is_blank : ℕ → Bool
is_blank c = c == ascii.space || c == ascii.tab

-- A-Z a-z 0-9 - _
abbrev pub is_keylike : ℕ → Bool
is_keylike c = is_ascii_alphanumeric c || (c == ascii.hyphen || c == ascii.underscore)

-- a tab, or any character from U+0020 on but U+007F
abbrev pub is_comment : ℕ → Bool
is_comment c = c == ascii.tab || (nat_le ascii.space c && not (c == ascii.delete))

abbrev pub after_blanks : Text → Text
after_blanks text = after_run is_blank text

-- after a comment, if one stands there
abbrev pub after_comment : Text → Text
after_comment [] = []
after_comment (x ∷ text) = if x.1 == ascii.hash then after_run is_comment text else x ∷ text
