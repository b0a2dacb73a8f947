-- Worked texts: what `python3 -m json.tool --indent 2` and `--compact` write of the same data.
use Rattle.std.proofs.Common.{◌≡◌, codes, refl, pos}
use Rattle.std.specs.Fmt.{digits}
use Rattle.basic_toml_value.specs.Data.{Data, integer, array, table, no_items, item, no_members, member}
use Rattle.toml_json_text.specs.declared.form.Form.TheVariants.{Plain, Tagged}
use Rattle.toml_json_text.specs.declared.layout.Layout.TheVariants.{Line, Lines}
use Rattle.toml_json_text.specs.Json.{json_in, name_text, type_text, tagged}

-- a = [1, [], {}], b = {c = {}}
abbrev data_of_levels : Data
data_of_levels =
    table
    (member (codes "a") (array (item (integer (pos 1)) (item (array no_items) (item (table no_members) no_items))))
    (member (codes "b") (table (member (codes "c") (table no_members) no_members)) no_members))

pub levels_on_lines : json_in Plain Lines data_of_levels
    ≡ codes "{\n  \"a\": [\n    1,\n    [],\n    {}\n  ],\n  \"b\": {\n    \"c\": {}\n  }\n}"
unfolding name_text digits
levels_on_lines = refl

pub levels_on_a_line : json_in Plain Line data_of_levels ≡ codes "{\"a\":[1,[],{}],\"b\":{\"c\":{}}}"
unfolding name_text digits
levels_on_a_line = refl

pub tagged_on_lines : json_in Tagged Lines (table (member (codes "a") (integer (pos 1)) no_members))
    ≡ codes "{\n  \"a\": {\n    \"type\": \"integer\",\n    \"value\": \"1\"\n  }\n}"
unfolding name_text type_text tagged digits
tagged_on_lines = refl

pub tagged_on_a_line : json_in Tagged Line (table (member (codes "a") (integer (pos 1)) no_members))
    ≡ codes "{\"a\":{\"type\":\"integer\",\"value\":\"1\"}}"
unfolding name_text type_text tagged digits
tagged_on_a_line = refl

pub nothing_on_lines : json_in Plain Lines (table no_members) ≡ codes "{}"
nothing_on_lines = refl
