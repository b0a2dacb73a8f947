-- What an array means, and a map: each value at its key, in the order of the keys. (own)
use Rattle.std.specs.Prelude.{ℕ, List, map, String, string_bytes, Vec}
use Rattle.std.specs.BTreeMap.{BTreeMap}
use Rattle.std.specs.Cmp.Lexicographic.{slice_cmp}
use Rattle.std.specs.FinMap.{entries, from_entries}
use Rattle.std.specs.Ordering.{nat_cmp}
use Rattle.std.specs.declared.alloc.Global.{Global}
use Rattle.basic_toml_value.specs.Data.{Data, Members, members_of, array, items_of, table}

-- what the entries mean, each key once and in order, as the entries of a map are
abbrev pub meant_entries : {A : Type 0} → (A → Data) → List (String Global × A) → List (List ℕ × Data)
meant_entries meant es = entries (from_entries {R = slice_cmp nat_cmp} (map (λ e. (string_bytes e.0, meant e.1)) es))

abbrev pub map_members : {A : Type 0} → (A → Data) → List (String Global × A) → Members
map_members meant es = members_of (meant_entries meant es)

abbrev pub array_meant : {A : Type 0} → (A → Data) → Vec A Global → Data
array_meant meant v = array (items_of (map meant v.items))

abbrev pub map_meant : {A : Type 0} → (A → Data) → BTreeMap (String Global) A → Data
map_meant meant m = table (map_members meant m.entries)
