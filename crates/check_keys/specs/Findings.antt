-- What is wrong with the keys of a text, and where. (own)
use Rattle.std.specs.Prelude.{◌≡◌, ◌⊎◌, ℕ, ◌+◌, Bool, nat_lt, if◌then◌else◌, List, [], ◌∷◌, ◌++◌, length, map}
use Rattle.std.specs.Prelude.{Option, Some, None, Result, Ok, Err, Vec, string_bytes}
use Rattle.std.specs.BTreeSet.{BTreeSet, contains}
use Rattle.std.specs.Cmp.Lexicographic.{pointwise, slice_cmp}
use Rattle.std.specs.List.{list_any}
use Rattle.std.specs.Str.{bytes_eq}
use Rattle.std.specs.String.{string_cmp}
use Rattle.std.specs.declared.alloc.Global.{Global}
use Rattle.std.specs.declared.string.String.{String}
use Rattle.basic_toml.specs.LineColumn.{line_at, column_at}
use Rattle.basic_toml.specs.tokens.Text.{text_at, start_of}
use Rattle.basic_toml.specs.tokens.Token.{FaultAt}
use Rattle.basic_toml.specs.tokens.TokenAt.{Lexeme}
use Rattle.basic_toml_tokens.specs.declared.error.Error.{Error}
use Rattle.basic_toml_tokens.specs.declared.error.Error.TheVariants.{OutOfMemory}
use Rattle.check_keys.specs.declared.keys.Finding.{Finding}
use Rattle.check_keys.specs.declared.keys.Trouble.{Trouble}
use Rattle.check_keys.specs.declared.keys.Trouble.TheVariants.{Duplicate, TooLong}
use Rattle.check_keys.specs.Rows.{Item, header, key, start, items_from, AreTokens}

-- a key: its parts, as bytes
abbrev pub Parts : Type 0
Parts = List (List ℕ)

abbrev pub is_long : List ℕ → Bool
is_long part = nat_lt 32 (length part)

abbrev pub is_among : Parts → List Parts → Bool
is_among parts seen = list_any (λ other. pointwise bytes_eq other parts) seen

-- a trouble at an offset, its line and its column from 1
abbrev pub found : List ℕ → ℕ → Trouble → Finding
found text offset trouble =
    record { trouble = trouble; line = line_at text offset + 1; column = column_at text offset + 1 }

-- what is wrong with an item, after these keys of its section
abbrev pub findings_at : List ℕ → List Parts → Item → List Finding
findings_at text seen header = []
findings_at text seen (key offset parts) =
    (if list_any is_long parts then found text offset TooLong ∷ [] else [])
    ++ (if is_among parts seen then found text offset Duplicate ∷ [] else [])

-- the keys of the section, after an item
abbrev pub seen_after : List Parts → Item → List Parts
seen_after seen header = []
seen_after seen (key offset parts) = parts ∷ seen

-- the same, where an item is completed
abbrev pub findings_by : List ℕ → List Parts → Option Item → List Finding
findings_by text seen None = []
findings_by text seen (Some item) = findings_at text seen item

abbrev pub seen_by : List Parts → Option Item → List Parts
seen_by seen None = seen
seen_by seen (Some item) = seen_after seen item

-- each key that stands in its section already, and each with a part of more than 32 bytes, in order
abbrev pub findings : List ℕ → List Parts → List Item → List Finding
findings text seen [] = []
findings text seen (item ∷ items) = findings_at text seen item ++ findings text (seen_after seen item) items

-- the set holds these keys
abbrev pub Remembers : BTreeSet (Vec (String Global) Global) → List Parts → Type 0
Remembers set seen = (parts : Vec (String Global) Global)
    → contains (λ a b. slice_cmp string_cmp a.items b.items) set parts ≡ is_among (map string_bytes parts.items) seen

-- The findings of all tokens of the text; or the error that stands where they end, or want of memory.
abbrev pub AnswersFindings : List ℕ → Result (Vec Finding Global) Error → Type 0
AnswersFindings text (Ok answer) = (tokens : List (ℕ × Lexeme)) × (end : ℕ)
    × AreTokens text (start_of text) tokens end × (text_at text end ≡ [])
    × (answer.items ≡ findings text [] (items_from start tokens))
AnswersFindings text (Err error) = (error ≡ OutOfMemory)
    ⊎ ((tokens : List (ℕ × Lexeme)) × (end : ℕ) × (next : ℕ) × AreTokens text (start_of text) tokens end
    × FaultAt text end error next)
