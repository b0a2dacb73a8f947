-- What is added to the list of a walk where an array or a table is opened. (own)
use Rattle.std.specs.Prelude.{◌≡◌, ℕ, List, ◌++◌, map, Option, Some, None}
use Rattle.basic_toml_value.specs.Data.{Data}
use Rattle.basic_toml_tree.specs.Nodes.{elements_in, entries_in}

-- elements have no key
abbrev pub without_keys : List Data → List (Option (List ℕ) × Data)
without_keys ds = map (λ d. (None, d)) ds

abbrev pub with_keys : List (List ℕ × Data) → List (Option (List ℕ) × Data)
with_keys ps = map (λ p. (Some p.0, p.1)) ps

module _ {N : Type 0} (key_of : N → Option (List ℕ)) (data_of : N → Data) where
  -- an item, as the key and the data that it stands for
  abbrev pub content_of : N → Option (List ℕ) × Data
  content_of item = (key_of item, data_of item)

  -- items behind those that are there, which stand for these
  abbrev pub Adds : List (Option (List ℕ) × Data) → List N → List N → Type 0
  Adds all old new = (added : List N) × (new ≡ old ++ added) × (map content_of added ≡ all)

  -- the elements of an array
  abbrev pub AddsElements : N → List N → List N → Type 0
  AddsElements item = Adds (without_keys (elements_in (data_of item)))

  -- the keys of a table with their values
  abbrev pub AddsEntries : N → List N → List N → Type 0
  AddsEntries item = Adds (with_keys (entries_in (data_of item)))
