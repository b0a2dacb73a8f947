-- The text of an error of reading: its message; then its key path, where it has one, with periods between the keys. It
-- has no line: an offset alone does not tell it. (own)
use Rattle.std.specs.Prelude.{ℕ, ◌&&◌, ◌||◌, ◌==◌, nat_le, if◌then◌else◌, false, List, [], ◌∷◌, ◌++◌, codes, decimal}
use Rattle.std.specs.Fmt.{digits}
use Rattle.basic_toml_tokens.specs.Ascii as ascii
use Rattle.basic_toml_grammar.specs.Faults as fault

-- A character as an error shows it: after a backslash, or as its number between braces, where it does not print.
abbrev pub escaped : ℕ → List ℕ
escaped c =
    if c == ascii.tab then codes "\\t" else if c == ascii.carriage_return then codes "\\r" else if c ==
    ascii.line_feed then codes "\\n"
    else if c == ascii.single_quote || (c == ascii.double_quote || c == ascii.backslash) then ascii.backslash ∷ c ∷ []
    else if nat_le ascii.space c && nat_le c 126 then c ∷ []
    else codes "\\u{" ++ (digits 16 false c ++ codes "}")

-- a text between two `
abbrev pub quoted : List ℕ → List ℕ
quoted text = 96 ∷ text ++ 96 ∷ []

abbrev pub message : fault.FaultKind → List ℕ
message (fault.invalid_char_in_string c) = codes "invalid character in string: " ++ quoted (escaped c)
message (fault.invalid_escape c) = codes "invalid escape character in string: " ++ quoted (escaped c)
message (fault.invalid_hex_escape c) = codes "invalid hex escape character in string: " ++ quoted (escaped c)
message (fault.invalid_escape_value n) = codes "invalid escape value: " ++ quoted (decimal n)
message fault.newline_in_string = codes "newline in string found"
message (fault.unexpected c) = codes "unexpected character found: " ++ quoted (escaped c)
message fault.unterminated_string = codes "unterminated string"
message fault.newline_in_table_key = codes "found newline in table key"
message fault.multiline_string_key = codes "multiline strings are not allowed for key"
message (fault.wanted expected found) = codes "expected " ++ (expected ++ (codes ", found " ++ found))
message fault.unexpected_eof = codes "unexpected eof encountered"
message fault.number_invalid = codes "invalid number"
message fault.unquoted_string = codes "invalid TOML value, did you mean to use a quoted string?"
message fault.dotted_key_invalid_type = codes "dotted key attempted to extend non-table type"
message (fault.duplicate_key key) = codes "duplicate key: " ++ quoted key
message (fault.duplicate_table name) = codes "redefinition of table " ++ quoted name
message fault.redefine_as_array = codes "table redefined as array"
message fault.nested_too_deeply = codes "nested too deeply"
message (fault.custom text) = text
message fault.out_of_memory = codes "out of memory"

abbrev pub joined : List (List ℕ) → List ℕ
joined [] = []
joined (key ∷ []) = key
joined (key ∷ other ∷ keys) = key ++ (ascii.period ∷ joined (other ∷ keys))

abbrev pub key_text : List (List ℕ) → List ℕ
key_text [] = []
key_text (key ∷ keys) = codes " for key " ++ quoted (joined (key ∷ keys))

abbrev pub read_text : fault.Fault → List ℕ
read_text f = message f.kind ++ key_text f.key_path
