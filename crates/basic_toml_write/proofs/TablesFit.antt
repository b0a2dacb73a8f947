-- Tables whose keys differ, and that fit by their entries.
use Rattle.std.proofs.Common.{◌≡◌, ℕ, ◌+◌, Bool, true, false, List, [], ◌∷◌, refl, sym, ◌∙◌, ap}
use Rattle.std.specs.Prelude.{nat_lt, IsTrue}
use Rattle.basic_toml_index.specs.Keys.{are_distinct}
use Rattle.basic_toml_value.specs.Nesting.{nesting_limit}
use Rattle.basic_toml_value.specs.Pairs.{keys_of}
use Rattle.basic_toml_value.specs.View.{entries}
use Rattle.basic_toml_value.specs.declared.value.Value.{Value}
use Rattle.basic_toml_write.specs.DataFits.{member_keys, members_fit, table_fits}

pub member_keys-entries : (ps : List (List ℕ × Value)) → member_keys (entries ps) ≡ keys_of ps
member_keys-entries [] = refl
member_keys-entries (p ∷ ps) = ap (λ z. p.0 ∷ z) (member_keys-entries ps)

pub fits_by_entries : (around : ℕ) (ps qs : List (List ℕ × Value)) (r : Bool) → nat_lt around nesting_limit ≡ true
    → qs ≡ ps → IsTrue (are_distinct (keys_of ps)) → r ≡ members_fit (around + 1) false (entries qs)
    → r ≡ table_fits around (entries ps)
fits_by_entries around ps qs r may same distinct is =
    is ∙ (ap (λ z. members_fit (around + 1) false (entries z)) same ∙
    sym (rw (may, member_keys-entries ps, distinct) refl))
