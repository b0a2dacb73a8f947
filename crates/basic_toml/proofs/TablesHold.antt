-- A table and the data that it stands for: what stands at a key, and when two are equal.
use Rattle.std.proofs.Common.{◌≡◌, ℕ, List, [], ◌∷◌, Bool, true, false, refl, ap, ◌∙◌, Some, option_map, option_and_then}
use Rattle.std.proofs.Common.{cond, Option, None, IsTrue, ◌↔◌, subst}
use Rattle.std.specs.Str.{bytes_eq}
use Rattle.basic_toml_value.specs.Data.{Data}
use Rattle.basic_toml_value.specs.Equal.{members_eq}
use Rattle.basic_toml_value.specs.EqualLaws.{members_eq_same, members_eq-same}
use Rattle.basic_toml_value.specs.Pairs.{value_at}
use Rattle.basic_toml_value.specs.View.{view, entries}
use Rattle.basic_toml_value.specs.declared.value.Value.{Value}
use Rattle.basic_toml_tree.specs.Nodes.{data_among}

-- what `get` answers is what stands at the key in the data
pub get_is_data : (pairs : List (List ℕ × Value)) (key : List ℕ)
    → option_map view (value_at pairs key) ≡ data_among (entries pairs) key
get_is_data [] key = refl
get_is_data (p ∷ ps) key = go (bytes_eq key p.0) (get_is_data ps key)
  where
    go : (b : Bool) → option_map view (value_at ps key) ≡ data_among (entries ps) key
        → option_map view (cond b (Some p.1) (value_at ps key)) ≡ cond b (Some (view p.1)) (data_among (entries ps) key)
    go true same = refl
    go false same = same

-- and so is a part of it
pub part_of_data : {A : Type 0} (part : Data → Option A) (pairs : List (List ℕ × Value)) (key : List ℕ)
    → option_and_then (λ value. part (view value)) (value_at pairs key) ≡ option_and_then part (data_among (entries pairs) key)
part_of_data part pairs key = go (value_at pairs key) ∙ ap (option_and_then part) (get_is_data pairs key)
  where
    go : (found : Option Value) → option_and_then (λ value. part (view value)) found
        ≡ option_and_then part (option_map view found)
    go None = refl
    go (Some value) = refl

-- `==` answers true exactly where the data are equal
pub equal_data : (left right : List (List ℕ × Value))
    → IsTrue (members_eq (entries left) (entries right)) ↔ (entries left ≡ entries right)
equal_data left right = (
  λ is. members_eq_same (entries left) (entries right) is,
  λ same. subst (λ m. members_eq (entries left) m ≡ true) same (members_eq-same (entries left)),
)

pub ruleset tables_hold = (get_is_data, part_of_data, equal_data)
