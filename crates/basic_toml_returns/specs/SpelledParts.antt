-- What spells a value by itself spells it as a part of an array or a table.
use Rattle.std.proofs.Common.{◌≡◌, ℕ, List, ◌++◌, refl, Option, Some}
use Rattle.basic_toml_value.specs.Data.{Data}
use Rattle.basic_toml_layout.specs.Written as w
use Rattle.basic_toml_layout.specs.Written.{Written, Elements, element, Entries, entry}
use Rattle.basic_toml_layout.specs.Trees.{tree_of, entry_trees}
use Rattle.basic_toml_emit.specs.Items.{Item}
use Rattle.basic_toml_write.specs.Kept.{kept, kept_entries}
use Rattle.basic_toml_write.specs.Spelling.{IsValue, one_scalar, none, an_array, a_table, AreElements, array_end}
use Rattle.basic_toml_write.specs.Spelling.{a_some, an_element, member, AreEntries, table_end, by_key, by_field}
use Rattle.basic_toml_write.specs.Spelling.{IsPrefixed, bare, with_some, with_value, Spells, root, root_some}
use Rattle.basic_toml_returns.specs.Means.{entry_data, with_member}

-- with a list after it
mutual
  value_onto : {is left : List Item} {v : Written} → IsValue is v left → (rest : List Item)
      → IsValue (is ++ rest) v (left ++ rest)
  value_onto one_scalar rest = one_scalar
  value_onto none rest = none
  value_onto (an_array d) rest = an_array (elements_onto d rest)
  value_onto (a_table d) rest = a_table (entries_onto d rest)

  elements_onto : {is left : List Item} {es : Elements} → AreElements is es left → (rest : List Item)
      → AreElements (is ++ rest) es (left ++ rest)
  elements_onto array_end rest = array_end
  elements_onto (a_some d) rest = a_some (elements_onto d rest)
  elements_onto (an_element d) rest = an_element (elements_onto d rest)
  elements_onto (member d ds) rest = member (value_onto d rest) (elements_onto ds rest)

  entries_onto : {is left : List Item} {es : Entries} → AreEntries is es left → (rest : List Item)
      → AreEntries (is ++ rest) es (left ++ rest)
  entries_onto table_end rest = table_end
  entries_onto (by_key d ds) rest = by_key (prefixed_onto d rest) (entries_onto ds rest)
  entries_onto (by_field d ds) rest = by_field (prefixed_onto d rest) (entries_onto ds rest)

  prefixed_onto : {is left : List Item} {v : Written} → IsPrefixed is v left → (rest : List Item)
      → IsPrefixed (is ++ rest) v (left ++ rest)
  prefixed_onto (bare d) rest = bare (value_onto d rest)
  prefixed_onto (with_some d) rest = with_some (prefixed_onto d rest)
  prefixed_onto (with_value d) rest = with_value (prefixed_onto d rest)

-- as the value of an entry
pub as_entry : {is : List Item} {v : Written} → Spells is v → (rest : List Item) → IsPrefixed (is ++ rest) v rest
as_entry (root d) rest = bare (value_onto d rest)
as_entry (root_some d) rest = with_some (as_entry d rest)

-- as the first of the elements
pub as_element : {is rest left : List Item} {v : Written} {es : Elements} → Spells is v → AreElements rest es left
    → AreElements (is ++ rest) (element v es) left
as_element {rest = rest} (root d) ds = member (value_onto d rest) ds
as_element (root_some d) ds = a_some (as_element d ds)

-- an entry is kept unless it is absent
pub kept_entry : (key : List ℕ) (v : Written) (es : Entries)
    → entry_trees (kept_entries (entry key v es)) ≡ with_member key (entry_data v) (entry_trees (kept_entries es))
kept_entry key (w.scalar (w.integer z)) es = refl
kept_entry key (w.scalar (w.boolean z)) es = refl
kept_entry key (w.scalar (w.float z)) es = refl
kept_entry key (w.scalar (w.text z)) es = refl
kept_entry key (w.scalar (w.other_text z)) es = refl
kept_entry key (w.scalar (w.bytes z)) es = refl
kept_entry key (w.scalar w.refused) es = refl
kept_entry key w.absent es = refl
kept_entry key (w.array z) es = refl
kept_entry key (w.table z) es = refl

-- what is kept of a value that is there
pub kept_tree : (v : Written) (d : Data) → ◌≡◌ {A = Option Data} (entry_data v) (Some d) → tree_of (kept v) ≡ d
kept_tree (w.scalar l) d there = cc
kept_tree w.absent d there = absurd (cc)
kept_tree (w.array es) d there = cc
kept_tree (w.table es) d there = cc
