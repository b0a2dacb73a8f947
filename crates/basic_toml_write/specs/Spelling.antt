-- A list of items spells a written value (own):
-- a root is some-prefixes, then a value;
-- a value is a scalar, none, or an array or a table with its end;
-- an array is open array, then values, some-prefixes and element-prefixes in any order, then end;
-- a table is open table, entries, end;
-- an entry is key and a text, or field; then some-prefixes and value-prefixes in any order; then a value.
use Rattle.std.specs.Prelude.{ℕ, List, [], ◌∷◌}
use Rattle.basic_toml_layout.specs.Written.{Scalar, text, Written, scalar, absent, array, table, Elements, no_elements}
use Rattle.basic_toml_layout.specs.Written.{element, Entries, no_entries, entry}
use Rattle.basic_toml_emit.specs.Items.{Item, a_scalar, an_absent, open_array, open_table, close, key, field}
use Rattle.basic_toml_emit.specs.Items.{some_prefix, value_prefix, element_prefix}

-- In each, the first list is the items of what is spelled, with the last list after them.
mutual
  pub data IsValue : List Item → Written → List Item → Type 0 where
    one_scalar : {l : Scalar} {rest : List Item} → IsValue (a_scalar l ∷ rest) (scalar l) rest
    none : {rest : List Item} → IsValue (an_absent ∷ rest) absent rest
    an_array : {is rest : List Item} {es : Elements} → AreElements is es rest
        → IsValue (open_array ∷ is) (array es) rest
    a_table : {is rest : List Item} {es : Entries} → AreEntries is es rest → IsValue (open_table ∷ is) (table es) rest

  -- the elements of an array, and its end
  pub data AreElements : List Item → Elements → List Item → Type 0 where
    array_end : {rest : List Item} → AreElements (close ∷ rest) no_elements rest
    a_some : {is rest : List Item} {es : Elements} → AreElements is es rest → AreElements (some_prefix ∷ is) es rest
    an_element : {is rest : List Item} {es : Elements} → AreElements is es rest
        → AreElements (element_prefix ∷ is) es rest
    member : {is mid rest : List Item} {v : Written} {es : Elements} → IsValue is v mid → AreElements mid es rest
        → AreElements is (element v es) rest

  -- the entries of a table, and its end
  pub data AreEntries : List Item → Entries → List Item → Type 0 where
    table_end : {rest : List Item} → AreEntries (close ∷ rest) no_entries rest
    by_key : {is mid rest : List Item} {k : List ℕ} {v : Written} {es : Entries} → IsPrefixed is v mid
        → AreEntries mid es rest → AreEntries (key ∷ (a_scalar (text k) ∷ is)) (entry k v es) rest
    by_field : {is mid rest : List Item} {k : List ℕ} {v : Written} {es : Entries} → IsPrefixed is v mid
        → AreEntries mid es rest → AreEntries (field k ∷ is) (entry k v es) rest

  -- the value of an entry, after its prefixes
  pub data IsPrefixed : List Item → Written → List Item → Type 0 where
    bare : {is rest : List Item} {v : Written} → IsValue is v rest → IsPrefixed is v rest
    with_some : {is rest : List Item} {v : Written} → IsPrefixed is v rest → IsPrefixed (some_prefix ∷ is) v rest
    with_value : {is rest : List Item} {v : Written} → IsPrefixed is v rest → IsPrefixed (value_prefix ∷ is) v rest

-- a whole list
pub data Spells : List Item → Written → Type 0 where
  root : {is : List Item} {w : Written} → IsValue is w [] → Spells is w
  root_some : {is : List Item} {w : Written} → Spells is w → Spells (some_prefix ∷ is) w
