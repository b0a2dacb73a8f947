-- A written value in which every item finds its place, by the same recursion as the calls: the positive form of 'no
-- unsupported shape'.
use Rattle.std.specs.Prelude.{ℕ, suc, ◌≡◌, Bool, false, ◌&&◌, nat_le, List, ⊤}
use Rattle.basic_toml_layout.specs.Written.{Scalar, Written, scalar, absent, array, table, Elements, no_elements}
use Rattle.basic_toml_layout.specs.Written.{element, Entries, no_entries, entry, is_refused, is_bytes}
use Rattle.basic_toml_layout.specs.Layout.{form}
use Rattle.basic_toml_open_keys.specs.Keys.{PresentKeys, no_keys, with_key}
use Rattle.basic_toml_write.specs.Shapes.{then_after}

-- bytes open an array where n are open
abbrev pub scalar_too_deep : ℕ → Scalar → ℕ → Bool
scalar_too_deep limit l n = is_bytes l && nat_le limit n

-- n arrays and tables are open where it stands
abbrev mutual
  -- an element that is no table
  pub FitsValue : ℕ → ℕ → Written → Type 0
  FitsValue limit n (scalar l) = (is_refused l ≡ false) × (scalar_too_deep limit l n ≡ false)
  FitsValue limit n absent = ⊥
  FitsValue limit n (array es) = (nat_le limit n ≡ false) × FitsOthers limit (suc n) es
  FitsValue limit n (table es) = ⊥

  pub FitsOthers : ℕ → ℕ → Elements → Type 0
  FitsOthers limit n no_elements = ⊤
  FitsOthers limit n (element v es) = FitsValue limit n v × FitsOthers limit n es

  pub FitsTables : ℕ → ℕ → Elements → Type 0
  FitsTables limit n no_elements = ⊤
  FitsTables limit n (element (table rs) es) = (nat_le limit n ≡ false) × FitsEntries limit (suc n) false no_keys rs
      × FitsTables limit n es
  FitsTables limit n (element _ es) = ⊥

  -- the elements of an array that is an entry
  pub FitsArray : ℕ → ℕ → Bool → Elements → Type 0
  FitsArray limit n late no_elements = late ≡ false
  FitsArray limit n late (element (table rs) es) = (nat_le limit n ≡ false)
      × FitsEntries limit (suc n) false no_keys rs × FitsTables limit n es
  FitsArray limit n late (element v es) = (late ≡ false) × FitsValue limit n v × FitsOthers limit n es

  pub FitsEntry : ℕ → ℕ → Bool → PresentKeys → List ℕ → Written → Type 0
  FitsEntry limit n late seen k (scalar l) = (is_refused l ≡ false) × (seen k ≡ false) × (late ≡ false)
      × (scalar_too_deep limit l n ≡ false)
  FitsEntry limit n late seen k absent = ⊤
  FitsEntry limit n late seen k (array es) = (seen k ≡ false) × (nat_le limit n ≡ false)
      × FitsArray limit (suc n) late es
  FitsEntry limit n late seen k (table rs) = (seen k ≡ false) × (nat_le limit n ≡ false)
      × FitsEntries limit (suc n) false no_keys rs

  pub FitsEntries : ℕ → ℕ → Bool → PresentKeys → Entries → Type 0
  FitsEntries limit n late seen no_entries = ⊤
  FitsEntries limit n late seen (entry k absent rs) = FitsEntries limit n late seen rs
  FitsEntries limit n late seen (entry k v rs) = FitsEntry limit n late seen k v
      × FitsEntries limit n (then_after late (form v)) (with_key k seen) rs

abbrev pub Fits : ℕ → Written → Type 0
Fits limit (table rs) = (nat_le limit 0 ≡ false) × FitsEntries limit 1 false no_keys rs
Fits limit _ = ⊥
