-- The faults that a type makes at a node: the message, with the node's offset and key path. (own)
use Rattle.std.specs.Prelude.{ℕ, Bool, true, false, List, [], ◌∷◌, ◌++◌, codes, decimal, None, Some, Option}
use Rattle.std.specs.Fmt.{signed_decimal}
use Rattle.std.specs.List.{flat_map}
use Rattle.std.specs.Prelude.{◌==◌, ◌||◌, if◌then◌else◌, ◌≡◌, ◌⊎◌}
use Rattle.basic_toml_tokens.specs.Ascii as ascii
use Rattle.basic_toml_value.specs.Data.{Data}
use Rattle.basic_toml_tree.specs.declared.node.Node.{Node}
use Rattle.basic_toml_tree.specs.Origin as origin
use Rattle.basic_toml_explain.specs.ReadErrorText.{quoted}
use Rattle.basic_toml_error.specs.Fault.{Fault, FaultKind, want_of_memory}

-- at a node, and at the table around it
abbrev pub fault_within : Node → Option ℕ → FaultKind → Fault
fault_within node offset kind = record {
  kind = kind;
  key_path = origin.keys_of node;
  offset = offset;
  line_column = None;
  anchor = Some (origin.anchor_of node);
}

unfoldable pub fault_at : Node → FaultKind → Fault
fault_at node kind = fault_within node (origin.offset_of node) kind

unfoldable pub fault_around : Node → FaultKind → Fault
fault_around node kind = fault_within node (origin.outer_of node) kind

-- where the node begins
unfoldable pub fault_at_start : Node → FaultKind → Fault
fault_at_start node kind = fault_within node (origin.start_of node) kind

-- a string, with a backslash before each quote and each backslash of it
abbrev pub escaped_quote : ℕ → List ℕ
escaped_quote c =
    if (c == ascii.double_quote) || (c == ascii.backslash) then ascii.backslash ∷ c ∷ [] else c ∷ []

abbrev pub escaped_quotes : List ℕ → List ℕ
escaped_quotes text = flat_map escaped_quote text

abbrev pub truth_text : Bool → List ℕ
truth_text true = codes "true"
truth_text false = codes "false"

-- what was found
abbrev pub found : Data → List ℕ
found (Data.boolean b) = codes "boolean " ++ quoted (truth_text b)
found (Data.integer z) = codes "integer " ++ quoted (signed_decimal z)
found (Data.float text) = codes "floating point " ++ quoted text
found (Data.string text) =
    codes "string " ++ (ascii.double_quote ∷ escaped_quotes text ++ ascii.double_quote ∷ [])
found (Data.array _) = codes "sequence"
found (Data.table _) = codes "map"

unfoldable pub type_message : Data → List ℕ → List ℕ
type_message d expected = codes "invalid type: " ++ (found d ++ (codes ", expected " ++ expected))

unfoldable pub value_message : Data → List ℕ → List ℕ
value_message d expected = codes "invalid value: " ++ (found d ++ (codes ", expected " ++ expected))

unfoldable pub length_message : ℕ → List ℕ → List ℕ
length_message n expected = codes "invalid length " ++ (decimal n ++ (codes ", expected " ++ expected))

unfoldable pub missing_message : List ℕ → List ℕ
missing_message field = codes "missing field " ++ quoted field

-- a name behind a comma
abbrev pub behind_comma : List ℕ → List ℕ
behind_comma name = codes ", `" ++ (name ++ codes "`")

-- what is offered in place of an unknown name; `kinds` are what the names are names of
abbrev pub offered : List ℕ → List (List ℕ) → List ℕ
offered kinds [] = codes ", there are no " ++ kinds
offered kinds (name ∷ []) = codes ", expected `" ++ (name ++ codes "`")
offered kinds (name ∷ other ∷ []) = codes ", expected `" ++ (name ++ (codes "` or `" ++ (other ++ codes "`")))
offered kinds (name ∷ other ∷ third ∷ names) =
    codes ", expected one of `" ++ (name ++ (codes "`" ++ flat_map behind_comma (other ∷ third ∷ names)))

unfoldable pub unknown_field_message : List ℕ → List (List ℕ) → List ℕ
unknown_field_message field fields =
    codes "unknown field " ++ (quoted field ++ offered (codes "fields") fields)

unfoldable pub unknown_variant_message : List ℕ → List (List ℕ) → List ℕ
unknown_variant_message name variants =
    codes "unknown variant " ++ (quoted name ++ offered (codes "variants") variants)

-- memory aside, this fault
abbrev pub IsFault : Fault → Fault → Type 0
IsFault fault made = (fault ≡ want_of_memory) ⊎ (fault ≡ made)
