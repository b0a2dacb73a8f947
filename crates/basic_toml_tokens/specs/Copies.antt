-- Which strings ask for a copy of their value (own): those that hold an escape, a continuation, or a CR LF other than
-- directly after a multiline opener. Between `"` a backslash begins an escape or a continuation and stands nowhere
-- else; in a string a CR stands only in CR LF.
use Rattle.std.specs.Prelude.{◌≡◌, ℕ, Bool, true, false, ◌&&◌, ◌||◌, ◌==◌, if◌then◌else◌, List, [], ◌∷◌, drop}
use Rattle.std.specs.Prelude.{slice_index}
use Rattle.std.specs.List.{list_any}
use Rattle.std.specs.Str.{IsCharBoundary}
use Rattle.basic_toml_tokens.specs.Ascii as ascii
use Rattle.basic_toml_tokens.specs.Text.{Text, text_at}
use Rattle.basic_toml_tokens.specs.Strings.{Quotes, Pieces, Opens}
use Rattle.basic_toml_tokens.specs.TokenAt.{Lexeme, string}
use Rattle.basic_toml_tokens.specs.Reading.{between}

-- the byte asks for a copy in a string between d
abbrev pub is_special : ℕ → ℕ → Bool
is_special d b = b == ascii.carriage_return || (b == ascii.backslash && d == ascii.double_quote)

-- without a CR LF at the front
abbrev pub without_feed : List ℕ → List ℕ
without_feed [] = []
without_feed (b ∷ []) = b ∷ []
without_feed (b ∷ c ∷ bs) = if b == ascii.carriage_return && c == ascii.line_feed then bs else b ∷ c ∷ bs

-- by the bytes of the string
abbrev pub is_copied : Bool → List ℕ → Bool
is_copied multiline source =
    list_any (is_special (slice_index source 0)) (if multiline then without_feed (drop 3 source) else source)

abbrev pub needs_copy : Lexeme → Bool
needs_copy (string source value multiline) = is_copied multiline source
needs_copy _ = false

-- A string opens at `at`, and pieces of its body lead to `upto`, before which something asks for a copy. The string may
-- end or break after them.
pub record NeedsMemory (bytes : List ℕ) (at : ℕ) : Type 0 where
  pub kind : Quotes
  pub body : Text
  pub opens : Opens (text_at bytes at) at kind body
  pub inside : List ℕ
  pub upto : ℕ
  pub pieces : Pieces kind body inside (text_at bytes upto)
  pub boundary : IsCharBoundary bytes upto
  pub copied : is_copied kind.multiline (between bytes at upto) ≡ true
