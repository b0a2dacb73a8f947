-- What contracts see of a `ReadError`, and what a fault of a token becomes.
use Rattle.std.specs.Prelude.{ℕ, List, [], map, Option, Some, None, Vec, String, string_bytes}
use Rattle.std.specs.Borrow.{Bor}
use Rattle.std.specs.declared.alloc.Global.{Global}
use Rattle.basic_toml_tokens.specs.declared.error.Error.{Error}
use Rattle.basic_toml_tokens.specs.declared.error.Error.TheVariants as tokens
use Rattle.basic_toml_explain.specs.declared.error.ReadError.TheInside.{Inside}
use Rattle.basic_toml_explain.specs.declared.error.ReadErrorKind.{ReadErrorKind}
use Rattle.basic_toml_explain.specs.declared.error.ReadErrorKind.TheVariants as kinds
use Rattle.basic_toml_grammar.specs.Sections.{KeyTexts}
use Rattle.basic_toml_grammar.specs.Faults as fault
use Rattle.basic_toml_grammar.specs.Faults.{FaultKind, Fault}
use Rattle.basic_toml_grammar.specs.GrammarFaults.{fault_at}

-- a kind, with the text of each of its words
abbrev pub kind_by : {Word : Type 0} → (Word → List ℕ) → ReadErrorKind Word → FaultKind
kind_by text (kinds.InvalidCharInString c) = fault.invalid_char_in_string c
kind_by text (kinds.InvalidEscape c) = fault.invalid_escape c
kind_by text (kinds.InvalidHexEscape c) = fault.invalid_hex_escape c
kind_by text (kinds.InvalidEscapeValue n) = fault.invalid_escape_value n
kind_by text kinds.NewlineInString = fault.newline_in_string
kind_by text (kinds.Unexpected c) = fault.unexpected c
kind_by text kinds.UnterminatedString = fault.unterminated_string
kind_by text kinds.NewlineInTableKey = fault.newline_in_table_key
kind_by text kinds.MultilineStringKey = fault.multiline_string_key
kind_by text (kinds.Wanted expected found) = fault.wanted (text expected) (text found)
kind_by text kinds.UnexpectedEof = fault.unexpected_eof
kind_by text kinds.NumberInvalid = fault.number_invalid
kind_by text kinds.UnquotedString = fault.unquoted_string
kind_by text kinds.DottedKeyInvalidType = fault.dotted_key_invalid_type
kind_by text (kinds.DuplicateKey key) = fault.duplicate_key (string_bytes key)
kind_by text (kinds.DuplicateTable name) = fault.duplicate_table (string_bytes name)
kind_by text kinds.RedefineAsArray = fault.redefine_as_array
kind_by text kinds.NestedTooDeeply = fault.nested_too_deeply
kind_by text (kinds.Custom message) = fault.custom (string_bytes message)
kind_by text kinds.OutOfMemory = fault.out_of_memory

abbrev pub kind_of : ReadErrorKind (Bor (List ℕ)) → FaultKind
kind_of kind = kind_by (λ word. word.now) kind

-- a kind that owns its words
abbrev pub owned_kind_of : ReadErrorKind (String Global) → FaultKind
owned_kind_of kind = kind_by string_bytes kind

abbrev pub keys_of : Option (Vec (String Global) Global) → KeyTexts
keys_of None = []
keys_of (Some keys) = map string_bytes keys.items

abbrev pub fault_of : Inside → Fault
fault_of e = record { kind = kind_of e.kind; offset = e.offset; key_path = keys_of e.key_path }

abbrev pub want_of_memory : Fault
want_of_memory = record { kind = fault.out_of_memory; offset = None; key_path = [] }

-- a fault within some keys
abbrev pub fault_within : FaultKind → ℕ → KeyTexts → Fault
fault_within kind offset keys = record { kind = kind; offset = Some offset; key_path = keys }

-- a fault of a token keeps its kind and its offset
abbrev pub token_fault : Error → Fault
token_fault (tokens.InvalidCharInString at c) = fault_at (fault.invalid_char_in_string c) at
token_fault (tokens.InvalidEscape at c) = fault_at (fault.invalid_escape c) at
token_fault (tokens.InvalidHexEscape at c) = fault_at (fault.invalid_hex_escape c) at
token_fault (tokens.InvalidEscapeValue at n) = fault_at (fault.invalid_escape_value n) at
token_fault (tokens.NewlineInString at) = fault_at fault.newline_in_string at
token_fault (tokens.Unexpected at c) = fault_at (fault.unexpected c) at
token_fault (tokens.UnterminatedString at) = fault_at fault.unterminated_string at
token_fault (tokens.NewlineInTableKey at) = fault_at fault.newline_in_table_key at
token_fault (tokens.MultilineStringKey at) = fault_at fault.multiline_string_key at
token_fault (tokens.Wanted at expected found) = fault_at (fault.wanted expected.now found.now) at
token_fault tokens.OutOfMemory = want_of_memory
