-- The headers and the keys of a text, by its tokens (TOML v0.5.0, "Keys" and "Table"). A line begins with a header
-- where a left bracket comes first, and with a key where a keylike token or a string does: the key's parts are all of
-- those up to `=`. The next line begins after a line feed outside brackets.
use Rattle.std.specs.Prelude.{ℕ, ◌+◌, ◌-◌, ◌==◌, if◌then◌else◌, List, [], ◌∷◌, ◌++◌}
use Rattle.std.specs.Prelude.{map, string_bytes, Option, Some, None}
use Rattle.basic_toml.specs.tokens.TokenAt.{Lexeme, whitespace, newline, comment, equals, period, keylike, string}
use Rattle.basic_toml.specs.tokens.TokenAt.{left_brace, right_brace, left_bracket, right_bracket}
use Rattle.basic_toml.specs.tokens.Token.{TokenAt}
use Rattle.check_keys.specs.declared.rows.Item as code
use Rattle.check_keys.specs.declared.rows.Place.{Place}
use Rattle.check_keys.specs.declared.rows.Place.TheVariants.{Start, InKey, Behind}
use Rattle.check_keys.specs.declared.rows.Item.TheVariants.{Header, RowKey}

-- what a line begins with: a header, or a key, with the offset of its first part
pub data Item : Type 0 where
  header : Item
  key : (offset : ℕ) (parts : List (List ℕ)) → Item

-- where a token stands: at the start of a line, in a key, or after that, with so many brackets open
pub data Stand : Type 0 where
  start : Stand
  in_key : (offset : ℕ) (parts : List (List ℕ)) → Stand
  behind : (depth : ℕ) → Stand

-- where the next token stands
abbrev pub stand_after : Stand → ℕ → Lexeme → Stand
stand_after start at (keylike text) = in_key at (text ∷ [])
stand_after start at (string _ value _) = in_key at (value ∷ [])
stand_after start at left_bracket = behind 1
stand_after start at newline = start
stand_after start at (whitespace _) = start
stand_after start at (comment _) = start
stand_after start at _ = behind 0
stand_after (in_key offset parts) at (keylike text) = in_key offset (parts ++ text ∷ [])
stand_after (in_key offset parts) at (string _ value _) = in_key offset (parts ++ value ∷ [])
stand_after (in_key offset parts) at period = in_key offset parts
stand_after (in_key offset parts) at (whitespace _) = in_key offset parts
stand_after (in_key offset parts) at newline = start
stand_after (in_key offset parts) at _ = behind 0
stand_after (behind depth) at newline = if depth == 0 then start else behind depth
stand_after (behind depth) at left_bracket = behind (depth + 1)
stand_after (behind depth) at left_brace = behind (depth + 1)
stand_after (behind depth) at right_bracket = behind (depth - 1)
stand_after (behind depth) at right_brace = behind (depth - 1)
stand_after (behind depth) at _ = behind depth

-- what a token completes
abbrev pub item_at : Stand → Lexeme → Option Item
item_at start left_bracket = Some header
item_at (in_key offset parts) equals = Some (key offset parts)
item_at _ _ = None

abbrev pub also : Option Item → List Item → List Item
also None items = items
also (Some item) items = item ∷ items

-- the items that tokens complete, each token with its offset
abbrev pub items_from : Stand → List (ℕ × Lexeme) → List Item
items_from stand [] = []
items_from stand (token ∷ tokens) =
    also (item_at stand token.1) (items_from (stand_after stand token.0 token.1) tokens)

-- the tokens that stand in a text one after another, between two offsets
pub data AreTokens (text : List ℕ) : ℕ → List (ℕ × Lexeme) → ℕ → Type 0 where
  none : {at : ℕ} → AreTokens text at [] at
  next : {at next end : ℕ} {l : Lexeme} {tokens : List (ℕ × Lexeme)} → TokenAt text at l next
      → AreTokens text next tokens end → AreTokens text at ((at, l) ∷ tokens) end

-- the code's values, their texts as bytes
abbrev pub stand_of : Place → Stand
stand_of Start = start
stand_of (InKey found) = in_key found.offset (map string_bytes found.parts.items)
stand_of (Behind depth) = behind depth

abbrev pub item_of : code.Item → Item
item_of Header = header
item_of (RowKey found) = key found.offset (map string_bytes found.parts.items)

-- how many brackets are open
abbrev pub depth_of : Stand → ℕ
depth_of (behind depth) = depth
depth_of _ = 0
