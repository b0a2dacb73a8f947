-- The data that a `Value` and a `Table` stand for: what contracts see of them.
use Rattle.std.specs.Prelude.{ℕ, List, map}
use Rattle.basic_toml_value.specs.Data.{Data, integer, float, boolean, string, array, table, Items, Members}
use Rattle.basic_toml_value.specs.Data.{items_of, members_of}
use Rattle.basic_toml_value.specs.Text.{text_bytes}
use Rattle.basic_toml_value.specs.declared.value.Value.{Value, fold-Value}
use Rattle.basic_toml_value.specs.declared.value.Value.TheOpen.{Value-F}

-- one level, the parts seen already
abbrev pub view_step : Value-F Data → Data
view_step (Value-F.Integer n) = integer n
view_step (Value-F.Float text) = float text
view_step (Value-F.Boolean b) = boolean b
view_step (Value-F.String text) = string (text_bytes text)
view_step (Value-F.Array values) = array (items_of values.items)
view_step (Value-F.Table pairs) = table (members_of pairs)

abbrev pub view : Value → Data
view = fold-Value Data view_step

-- a `Table` is the list of its pairs
abbrev pub entries : List (List ℕ × Value) → Members
entries pairs = members_of (map (λ p. (p.0, view p.1)) pairs)

abbrev pub items_view : List Value → Items
items_view values = items_of (map view values)
