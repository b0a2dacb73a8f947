-- The depth of a written value (own): a scalar and an absent option count 0, but bytes 1, as the array that they are;
-- an array or a table counts one more than its deepest member, and 1 where it is empty. A written value has a depth of
-- at most the nesting limit.
use Rattle.std.specs.Prelude.{ℕ, suc, max}
use Rattle.basic_toml_layout.specs.Written.{Scalar, bytes, Written, scalar, absent, array, table, Elements}
use Rattle.basic_toml_layout.specs.Written.{no_elements, element, Entries, no_entries, entry}

abbrev pub scalar_depth : Scalar → ℕ
scalar_depth (bytes _) = 1
scalar_depth _ = 0

abbrev mutual
  pub depth : Written → ℕ
  depth (scalar l) = scalar_depth l
  depth absent = 0
  depth (array es) = suc (elements_depth es)
  depth (table es) = suc (entries_depth es)

  pub elements_depth : Elements → ℕ
  elements_depth no_elements = 0
  elements_depth (element v es) = max (depth v) (elements_depth es)

  pub entries_depth : Entries → ℕ
  entries_depth no_entries = 0
  entries_depth (entry k v es) = max (depth v) (entries_depth es)
