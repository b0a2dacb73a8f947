-- Items: what the calls of a serializer are recorded as (own).
-- A call of a scalar, a text or an array of bytes is one item with its value. Calls that are given a part are a prefix,
-- and then the items of the part; `serialize_newtype_struct` is the items of its part alone.
use Rattle.std.specs.Prelude.{ℕ, List}
use Rattle.basic_toml_layout.specs.Written.{Scalar}

pub data Item : Type 0 where
  a_scalar : Scalar → Item
  an_absent : Item
  open_array : Item
  open_table : Item
  close : Item
  key : Item
  field : List ℕ → Item
  some_prefix : Item
  value_prefix : Item
  element_prefix : Item
