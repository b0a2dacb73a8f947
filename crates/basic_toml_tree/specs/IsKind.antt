-- Of what kind data is.
use Rattle.std.specs.Prelude.{◌≡◌, Bool, true, false}
use Rattle.basic_toml_value.specs.Data.{Data}
use Rattle.basic_toml_tree.specs.Nodes.{is_array, is_table}
use Rattle.basic_toml_tree.specs.declared.spot.Kind.{Kind}
use Rattle.basic_toml_tree.specs.declared.spot.Kind.TheVariants as kinds

abbrev pub IsKind : Data → Kind → Type 0
IsKind d (kinds.Integer z) = d ≡ Data.integer z
IsKind d (kinds.Float float) = d ≡ Data.float float.now
IsKind d (kinds.Boolean b) = d ≡ Data.boolean b
IsKind d (kinds.Slice text) = d ≡ Data.string text.now
IsKind d (kinds.Copy text) = d ≡ Data.string text.now
IsKind d kinds.Array = is_array d ≡ true
IsKind d kinds.Table = is_table d ≡ true

-- a string that is a slice of the document
abbrev pub is_slice : Kind → Bool
is_slice (kinds.Slice text) = true
is_slice _ = false
