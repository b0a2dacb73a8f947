-- How large data is: what a walk over it has left to do.
use Rattle.std.proofs.Common.{◌≡◌, ℕ, zero, suc, ◌+◌, ◌<◌, ◌≤◌, List, [], ◌∷◌, length, get_or, ap, arith}
use Rattle.basic_toml_value.specs.Data.{Data, array, table, Items, no_items, item, Members, no_members, member}
use Rattle.basic_toml_value.specs.View.{view, entries, items_view}
use Rattle.basic_toml_value.specs.Entries.{seen}
use Rattle.basic_toml_value.specs.declared.pairs.Pair.{Pair}
use Rattle.basic_toml_value.specs.declared.value.Value.{Value}

abbrev mutual
  pub data_size : Data → ℕ
  data_size (array items) = suc (items_size items)
  data_size (table members) = suc (suc (members_size members))
  data_size _ = 1

  pub items_size : Items → ℕ
  items_size no_items = 1
  items_size (item d ds) = suc (data_size d + items_size ds)

  pub members_size : Members → ℕ
  members_size no_members = 2
  members_size (member key d ms) = suc (data_size d + members_size ms)

some_size : (members : Members) → 2 ≤ members_size members
some_size no_members = omega arith
some_size (member key d ms) = let more = some_size ms in omega arith

-- an element is smaller than the elements together
pub data_size-at : (values : List Value) (i : ℕ) (value : Value) → i < length values → value ≡ get_or values i value
    → data_size (view value) < items_size (items_view values)
data_size-at [] i value within read = absurd (omega arith)
data_size-at (v ∷ vs) zero value within read = rw (ap (λ x. view x) read) (omega arith)
data_size-at (v ∷ vs) (suc i) value within read = let more = data_size-at vs i value (omega arith) read in omega arith

-- the value of a pair is smaller than the pairs together
pub data_size-pair : (pairs : List (Pair Value)) (i : ℕ) (pair : Pair Value) → i < length pairs
    → pair ≡ get_or pairs i pair → suc (data_size (view pair.value)) < members_size (entries (seen pairs))
data_size-pair [] i pair within read = absurd (omega arith)
data_size-pair (p ∷ ps) zero pair within read = let more = some_size (entries (seen ps)) in
    rw (ap (λ x. view x.value) read) (omega arith)
data_size-pair (p ∷ ps) (suc i) pair within read = let more = data_size-pair ps i pair (omega arith) read in omega arith
