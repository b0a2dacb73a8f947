-- What the walk over a table sees: whether its rows come first, at every depth. Where they do it stays as it is.
use Rattle.std.proofs.Common.{◌≡◌, ℕ, Bool, cond, ◌&&◌, List, subst, sym}
use Rattle.std.proofs.Common.{IsTrue}
use Rattle.std.proofs.lemmas.Bool.{and_from, and_parts}
use Rattle.basic_toml_value.specs.Data.{Items, Members, table}
use Rattle.basic_toml_index.specs.Keys.{are_distinct}
use Rattle.basic_toml_value.specs.View.{entries}
use Rattle.basic_toml_value.specs.declared.value.Value.{Value}
use Rattle.basic_toml_value.specs.Pairs.{keys_of}
use Rattle.basic_toml_write.proofs.TablesFit.{member_keys-entries}
use Rattle.basic_toml_order.specs.RowsFirst.{are_sections, are_in_order, is_in_order, lead_in_order, members_rows_first}
use Rattle.basic_toml_order.specs.RowsFirst.{hold_in_order, items_rows_first}
use Rattle.basic_toml_order.specs.Sound.{is_sound, hold_sound}
use Rattle.basic_toml_order.proofs.RowsComeFirst.{items_stay, members_stay}

-- whether the members that are left are in order, where a section stood before them or none
abbrev pub rest_in_order : Bool → Members → Bool
rest_in_order is_late ms = cond is_late (are_sections ms) (are_in_order ms) && lead_in_order ms

-- the pairs of a table that differ in their keys
pub sound_table : (ps qs : List (List ℕ × Value)) → qs ≡ ps → IsTrue (are_distinct (keys_of ps))
    → IsTrue (hold_sound (entries qs)) → IsTrue (is_sound (table (entries ps)))
sound_table ps qs same distinct hold =
    and_from _ _ (rw (member_keys-entries ps) distinct) (subst (λ z. IsTrue (hold_sound (entries z))) same hold)

-- what is in order stays as it is
pub items_as_they_are : (xs : Items) → IsTrue (hold_in_order xs) → xs ≡ items_rows_first xs
items_as_they_are xs are = sym (items_stay xs are)

pub members_as_they_are : (ms : Members) → IsTrue (is_in_order (table ms)) → ms ≡ members_rows_first ms
members_as_they_are ms are = let parts = and_parts _ _ are in sym (members_stay ms parts.0 parts.1)
