-- The JSON of data (RFC 8259): a table is an object with its keys in order, an array an array. A string stands as TOML's
-- basic string of it does, whose escapes are JSON's. Scalars stand as JSON has them, but `inf` and `nan` as strings; or
-- tagged with their types, as the toml-test suite has them. It stands on one line; or each element and each member
-- stands on a line of its own, two blanks a level, and so does the closing bracket behind them. (own)
use Rattle.std.specs.Prelude.{ℕ, zero, suc, ◌+◌, ℤ, Bool, true, false, ◌||◌, if◌then◌else◌, List, [], ◌++◌, codes}
use Rattle.std.specs.Fmt.{signed_decimal}
use Rattle.std.specs.Str.{bytes_eq}
use Rattle.basic_toml_value.specs.Data.{Data, integer, float, boolean, string, array, table}
use Rattle.basic_toml_value.specs.Data.{Items, no_items, item, Members, no_members, member}
use Rattle.basic_toml_layout.specs.Texts.{quoted}
use Rattle.toml_json_text.specs.declared.form.Form.{Form}
use Rattle.toml_json_text.specs.declared.form.Form.TheVariants.{Plain, Tagged}
use Rattle.toml_json_text.specs.declared.layout.Layout.{Layout}
use Rattle.toml_json_text.specs.declared.layout.Layout.TheVariants.{Line, Lines}

-- two blanks a level
abbrev pub blanks : ℕ → List ℕ
blanks zero = []
blanks (suc level) = codes "  " ++ blanks level

-- the line feed before what stands on a line of its own, with the blanks of its level
abbrev pub break : Layout → ℕ → List ℕ
break Line level = []
break Lines level = codes "\n" ++ blanks level

-- the break before a closing bracket, where something stands in the brackets
abbrev pub last_break : Layout → ℕ → Bool → List ℕ
last_break layout level true = break layout level
last_break layout level false = []

abbrev pub comma : Bool → List ℕ
comma true = codes ","
comma false = []

-- before an element or a key of a level, where another stands before it or none does
abbrev pub separator : Layout → ℕ → Bool → List ℕ
separator layout level later = comma later ++ break layout level

abbrev pub colon : Layout → List ℕ
colon Line = codes ":"
colon Lines = codes ": "

-- a key of a level with its colon
unfoldable pub name_text : Layout → ℕ → Bool → List ℕ → List ℕ
name_text layout level later key = separator layout level later ++ (quoted key ++ colon layout)

abbrev pub between_quotes : List ℕ → List ℕ
between_quotes text = codes "\"" ++ (text ++ codes "\"")

-- the beginning of a scalar with its type, up to its value
unfoldable pub type_text : Layout → ℕ → List ℕ → List ℕ
type_text layout level kind =
    codes "{" ++ (name_text layout (level + 1) false (codes "type")
    ++ (between_quotes kind ++ name_text layout (level + 1) true (codes "value")))

-- a scalar with its type: an object of two strings
unfoldable pub tagged : Layout → ℕ → List ℕ → List ℕ → List ℕ
tagged layout level kind value = type_text layout level kind ++ (value ++ (break layout level ++ codes "}"))

abbrev pub integer_text : Form → Layout → ℕ → ℤ → List ℕ
integer_text Plain layout level z = signed_decimal z
integer_text Tagged layout level z = tagged layout level (codes "integer") (between_quotes (signed_decimal z))

-- the floats that JSON has no number for
abbrev pub is_special : List ℕ → Bool
is_special text =
    ((bytes_eq text (codes "inf") || bytes_eq text (codes "-inf")) || bytes_eq text (codes "nan"))
    || bytes_eq text (codes "-nan")

abbrev pub float_text : Form → Layout → ℕ → List ℕ → List ℕ
float_text Plain layout level text = if is_special text then between_quotes text else text
float_text Tagged layout level text = tagged layout level (codes "float") (between_quotes text)

abbrev pub truth_word : Bool → List ℕ
truth_word true = codes "true"
truth_word false = codes "false"

abbrev pub boolean_text : Form → Layout → ℕ → Bool → List ℕ
boolean_text Plain layout level b = truth_word b
boolean_text Tagged layout level b = tagged layout level (codes "bool") (between_quotes (truth_word b))

abbrev pub string_text : Form → Layout → ℕ → List ℕ → List ℕ
string_text Plain layout level text = quoted text
string_text Tagged layout level text = tagged layout level (codes "string") (quoted text)

abbrev mutual
  -- the JSON of data that stands at a level
  pub json_at : Form → Layout → ℕ → Data → List ℕ
  json_at form layout level (integer z) = integer_text form layout level z
  json_at form layout level (float text) = float_text form layout level text
  json_at form layout level (boolean b) = boolean_text form layout level b
  json_at form layout level (string text) = string_text form layout level text
  json_at form layout level (array items) =
      codes "[" ++ (elements_text form layout level false items ++ codes "]")
  json_at form layout level (table members) =
      codes "{" ++ (members_text form layout level false members ++ codes "}")

  -- the elements of an array of a level
  pub elements_text : Form → Layout → ℕ → Bool → Items → List ℕ
  elements_text form layout level later no_items = last_break layout level later
  elements_text form layout level later (item d items) =
      separator layout (level + 1) later
      ++ (json_at form layout (level + 1) d ++ elements_text form layout level true items)

  -- the members of an object of a level
  pub members_text : Form → Layout → ℕ → Bool → Members → List ℕ
  members_text form layout level later no_members = last_break layout level later
  members_text form layout level later (member key d members) =
      name_text layout (level + 1) later key
      ++ (json_at form layout (level + 1) d ++ members_text form layout level true members)

abbrev pub array_text : Form → Layout → ℕ → Items → List ℕ
array_text form layout level items = codes "[" ++ (elements_text form layout level false items ++ codes "]")

abbrev pub object_text : Form → Layout → ℕ → Members → List ℕ
object_text form layout level members =
    codes "{" ++ (members_text form layout level false members ++ codes "}")

-- the JSON of data, by itself
abbrev pub json_in : Form → Layout → Data → List ℕ
json_in form layout d = json_at form layout 0 d

-- on one line
abbrev pub json : Form → Data → List ℕ
json form d = json_in form Line d
