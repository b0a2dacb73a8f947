-- The items of a tree of data, by those of its parts.
use Rattle.std.proofs.Common.{◌≡◌, ℕ, List, [], ◌∷◌, ◌++◌, map, refl, ap}
use Rattle.std.specs.List.{flat_map}
use Rattle.basic_toml_value.specs.Data.{array, table, items_of}
use Rattle.basic_toml_value.specs.View.{view, entries}
use Rattle.basic_toml_value.specs.declared.value.Value.{Value}
use Rattle.basic_toml_emit.specs.Items.{Item, element_prefix, field, open_array, open_table, close}
use Rattle.basic_toml_write.specs.declared.error.WriteError.{WriteError}
use Rattle.basic_toml_write.specs.Serializer.{NoFault}
use Rattle.basic_toml_write.specs.Impls.{AnyGivesUp, data_calls, items_calls, members_calls, array_calls, table_calls}

items_sent : (vs : List Value)
    → flat_map (λ v. element_prefix ∷ data_calls (view v)) vs ≡ items_calls (items_of (map view vs))
items_sent [] = refl
items_sent (v ∷ vs) = ap (λ z. element_prefix ∷ (data_calls (view v) ++ z)) (items_sent vs)

members_sent : (ps : List (List ℕ × Value))
    → flat_map (λ p. field p.0 ∷ data_calls (view p.1)) ps ≡ members_calls (entries ps)
members_sent [] = refl
members_sent (p ∷ ps) = ap (λ z. field p.0 ∷ (data_calls (view p.1) ++ z)) (members_sent ps)

pub array_sent : (vs : List Value)
    → array_calls (λ v. data_calls (view v)) vs ≡ data_calls (array (items_of (map view vs)))
array_sent vs = ap (λ z. open_array ∷ (z ++ (close ∷ []))) (items_sent vs)

pub table_sent : (ps : List (List ℕ × Value))
    → table_calls (λ v. data_calls (view v)) ps ≡ data_calls (table (entries ps))
table_sent ps = ap (λ z. open_table ∷ (z ++ (close ∷ []))) (members_sent ps)

-- parts that never give up
pub any_never : {A : Type 0} (opening : Item) (prefix : A → Item) (calls : A → List Item) (xs : List A)
    (sent : List Item) (e : WriteError) → AnyGivesUp opening prefix calls (λ x. NoFault) xs sent e → NoFault sent e
any_never opening prefix calls xs sent e h = h.gives_up.allowed
