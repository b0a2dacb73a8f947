-- Rows that are taken.
use Rattle.std.proofs.Common.{◌≡◌, ℕ, Bool, true, false, List, [], ◌∷◌, ◌++◌, Ok, length, refl, sym, ◌∙◌, ap}
use Rattle.std.proofs.Common.{append_assoc}
use Rattle.std.specs.Prelude.{◌&&◌, nat_le}
use Rattle.basic_toml_layout.specs.Written.{Scalar, is_refused, is_bytes}
use Rattle.basic_toml_emit.specs.Items.{a_scalar}
use Rattle.basic_toml_value.specs.Nesting.{nesting_limit}
use Rattle.basic_toml_layout.specs.Texts.{written_scalar}
use Rattle.basic_toml_emit.specs.Open.{Frame, a_table, an_array, no_key, key_place, key_set, state}
use Rattle.basic_toml_emit.specs.Rules.{place_of, at_value, holds_section, is_too_deep}
use Rattle.basic_toml_emit.specs.Calls.{after, with_row}
use Rattle.basic_toml_emit.specs.Changes.{with_entry, holds_key, value_start}

pub row_taken : (t t' t'' t''' : List ℕ) (fs fs' fs'' : List Frame) (d d' : Bool) (v : Scalar) → d' ≡ d
    → place_of fs d ≡ at_value → is_refused v ≡ false → is_too_deep nesting_limit fs (a_scalar v) ≡ false
    → holds_key fs ≡ false → fs' ≡ with_entry fs → holds_section fs' ≡ false → t' ≡ t ++ value_start fs'
    → fs'' ≡ with_row fs' → t'' ≡ t' ++ written_scalar v → t''' ≡ t'' ++ (10 ∷ [])
    → after nesting_limit (state t fs d) (a_scalar v) ≡ Ok (state t''' fs'' d')
row_taken t t' t'' t''' [] fs' fs'' true d' v done place refused deep new entered late start row scalar end =
    absurd (cc)
row_taken t t' t'' t''' [] fs' fs'' false d' v done place refused deep new entered late start row scalar end =
    absurd (cc)
row_taken t t' t'' t''' (a_table no_key table ∷ fs) fs' fs'' d d' v done place refused deep new entered late start
    row scalar end = absurd (cc)
row_taken t t' t'' t''' (a_table key_place table ∷ fs) fs' fs'' d d' v done place refused deep new entered late
    start row scalar end = absurd (cc)
row_taken t t' t'' t''' (a_table (key_set k) table ∷ fs) fs' fs'' d d' v done place refused deep new entered late
    start row scalar end =
    let in_time : table.holds_section ≡ false = sym (ap holds_section entered) ∙ late in
    rw (done, refused, new, deep, end, scalar, start, row, entered, in_time) (simp append_assoc)
row_taken t t' t'' t''' (an_array kind later ∷ fs) fs' fs'' d d' v done place refused deep new entered late start row
    scalar end = absurd (cc)

and_false : (b : Bool) → (b && false) ≡ false
and_false true = refl
and_false false = refl

pub fits_with_room : (fs : List Frame) (v : Scalar) → nat_le nesting_limit (length fs) ≡ false
    → is_too_deep nesting_limit fs (a_scalar v) ≡ false
fits_with_room fs v room = rw room (and_false (is_bytes v))

pub fits_alone : (fs : List Frame) (v : Scalar) → is_bytes v ≡ false → is_too_deep nesting_limit fs (a_scalar v) ≡ false
fits_alone fs v alone = rw alone refl
