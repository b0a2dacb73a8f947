-- Items of which one grows something.
use Rattle.std.proofs.Common.{◌≡◌, Bool, true, false, List, [], ◌∷◌, ◌++◌, Result, Ok, Err, refl, sym, ◌∙◌, subst}
use Rattle.std.proofs.Common.{◌⊎◌, inl, inr}
use Rattle.std.specs.Prelude.{ℕ, ◌||◌}
use Rattle.std.proofs.lemmas.Bool.{or_cases, and_parts}
use Rattle.basic_toml_emit.specs.Items.{Item, open_array, open_table}
use Rattle.basic_toml_emit.specs.Open.{State, Frame, a_table, an_array, no_key, key_place, key_set}
use Rattle.basic_toml_emit.specs.Rules.{CallFault, key_not_string, call_order, unsupported_type, unsupported_none}
use Rattle.basic_toml_emit.specs.Rules.{duplicate_key, value_after_table, nested_too_deeply, first_fault, is_present}
use Rattle.basic_toml_emit.specs.Rules.{is_repeated, is_no_text_at_key, is_refused_kind, is_absent_outside}
use Rattle.basic_toml_emit.specs.Rules.{is_misfit, is_late_row, is_too_deep, place_of, key_of}
use Rattle.basic_toml_emit.specs.Calls.{run, on_ok, after, step}
use Rattle.basic_toml_emit.specs.Growth.{grows, items_grow, if_taken}
use Rattle.basic_toml_value.specs.Nesting.{nesting_limit}

or_left : (a b : Bool) → a ≡ true → (a || b) ≡ true
or_left true b e = refl
or_left false b e = absurd (cc)

or_right : (a b : Bool) → b ≡ true → (a || b) ≡ true
or_right true b e = refl
or_right false b e = e

-- whether an item grows something after so many others
abbrev pub grows_at : State → Item → Bool
grows_at s i = grows s.open_frames s.is_done i

pub first_grows : (s : State) (i : Item) (is : List Item) → grows_at s i ≡ true → items_grow s (i ∷ is) ≡ true
first_grows s i is e = or_left (grows_at s i) (if_taken (λ t. items_grow t is) (after nesting_limit s i)) e

later_grow : (s : State) (i : Item) (is : List Item) → if_taken (λ t. items_grow t is) (after nesting_limit s i) ≡ true
    → items_grow s (i ∷ is) ≡ true
later_grow s i is e = or_right (grows_at s i) (if_taken (λ t. items_grow t is) (after nesting_limit s i)) e

-- more items behind them
pub grow_before : (s : State) (xs ys : List Item) → items_grow s xs ≡ true → items_grow s (xs ++ ys) ≡ true
grow_before s [] ys e = absurd (cc)
grow_before s (x ∷ xs) ys e = go (λ t h. grow_before t xs ys h)
    (or_cases (grows_at s x) (if_taken (λ t. items_grow t xs) (after nesting_limit s x)) e)
  where
    on : ((t : State) → items_grow t xs ≡ true → items_grow t (xs ++ ys) ≡ true) → (r : Result State CallFault)
        → if_taken (λ t. items_grow t xs) r ≡ true → if_taken (λ t. items_grow t (xs ++ ys)) r ≡ true
    on k (Ok t) h = k t h
    on k (Err f) h = h

    go : ((t : State) → items_grow t xs ≡ true → items_grow t (xs ++ ys) ≡ true)
        → (grows_at s x ≡ true) ⊎ (if_taken (λ t. items_grow t xs) (after nesting_limit s x) ≡ true)
        → items_grow s (x ∷ (xs ++ ys)) ≡ true
    go k (inl now) = first_grows s x (xs ++ ys) now
    go k (inr h) = later_grow s x (xs ++ ys) (on k (after nesting_limit s x) h)

-- items that were taken before them
pub grow_after : (s t : State) (xs ys : List Item) → run nesting_limit s xs ≡ Ok t → items_grow t ys ≡ true
    → items_grow s (xs ++ ys) ≡ true
grow_after s t [] ys ran e = let same : t ≡ s = cc in subst (λ z. items_grow z ys ≡ true) same e
grow_after s t (x ∷ xs) ys ran e = later_grow s x (xs ++ ys)
    (on (λ z h. grow_after z t xs ys h e) (after nesting_limit s x) ran)
  where
    on : ((z : State) → run nesting_limit z xs ≡ Ok t → items_grow z (xs ++ ys) ≡ true) → (r : Result State CallFault)
        → on_ok (λ z. run nesting_limit z xs) r ≡ Ok t → if_taken (λ z. items_grow z (xs ++ ys)) r ≡ true
    on k (Ok z) h = k z h
    on k (Err f) h = absurd (cc)

-- what repeats a key would have grown something
sixth_met : (a b c d e f g h : Bool) (k l : List ℕ) (s : State)
    → first_fault ((a, key_not_string) ∷ (b, call_order) ∷ (c, unsupported_type) ∷ (d, unsupported_none)
    ∷ (e, unsupported_type) ∷ (f, duplicate_key l) ∷ (g, value_after_table) ∷ (h, nested_too_deeply) ∷ []) (Ok s)
    ≡ Err (duplicate_key k) → f ≡ true
sixth_met true b c d e f g h k l s at = absurd (cc)
sixth_met false true c d e f g h k l s at = absurd (cc)
sixth_met false false true d e f g h k l s at = absurd (cc)
sixth_met false false false true e f g h k l s at = absurd (cc)
sixth_met false false false false true f g h k l s at = absurd (cc)
sixth_met false false false false false true g h k l s at = refl
sixth_met false false false false false false true h k l s at = absurd (cc)
sixth_met false false false false false false false true k l s at = absurd (cc)
sixth_met false false false false false false false false k l s at = absurd (cc)

repeated_grows : (fs : List Frame) (d : Bool) (i : Item) → is_repeated fs i ≡ true → grows fs d i ≡ true
repeated_grows [] d i e = absurd (cc)
repeated_grows (a_table no_key t ∷ fs) d i e = absurd (cc)
repeated_grows (a_table key_place t ∷ fs) d i e = absurd (cc)
repeated_grows (a_table (key_set k) t ∷ fs) d i e = (and_parts (is_present i) (t.keys k) e).0
repeated_grows (an_array kind later ∷ fs) d i e = absurd (cc)

pub repeated_item : (s : State) (i : Item) (k : List ℕ) → after nesting_limit s i ≡ Err (duplicate_key k)
    → grows_at s i ≡ true
repeated_item s i k at =
    let fs = s.open_frames in
    let p = place_of fs s.is_done in
    repeated_grows fs s.is_done i
    (sixth_met (is_no_text_at_key p i) _ (is_refused_kind i) (is_absent_outside p i) (is_misfit fs i) (is_repeated fs i)
    (is_late_row fs i) (is_too_deep nesting_limit fs i) k (key_of fs) _ at)

pub repeated_items : (s : State) (is : List Item) (k : List ℕ) → run nesting_limit s is ≡ Err (duplicate_key k)
    → items_grow s is ≡ true
repeated_items s [] k at = absurd (cc)
repeated_items s (i ∷ is) k at = on (λ z h. repeated_items z is k h) (after nesting_limit s i) refl at
  where
    on : ((z : State) → run nesting_limit z is ≡ Err (duplicate_key k) → items_grow z is ≡ true)
        → (r : Result State CallFault) → after nesting_limit s i ≡ r
        → on_ok (λ z. run nesting_limit z is) r ≡ Err (duplicate_key k) → items_grow s (i ∷ is) ≡ true
    on f (Ok z) now h =
        later_grow s i is (subst (λ r. if_taken (λ t. items_grow t is) r ≡ true) (sym now) (f z h))
    on f (Err e) now h = first_grows s i is (repeated_item s i k (now ∙ h))

-- what opens an array or a table, and is taken, grows something
array_at : (t : List ℕ) (fs : List Frame) (d : Bool) (s : State) → step nesting_limit t fs d open_array ≡ Ok s
    → grows fs d open_array ≡ true
array_at t [] false s h = absurd (cc)
array_at t [] true s h = absurd (cc)
array_at t (a_table no_key o ∷ fs) d s h = absurd (cc)
array_at t (a_table key_place o ∷ fs) d s h = absurd (cc)
array_at t (a_table (key_set k) o ∷ fs) d s h = refl
array_at t (an_array kind later ∷ fs) d s h = refl

table_at : (t : List ℕ) (fs : List Frame) (d : Bool) (s : State) → step nesting_limit t fs d open_table ≡ Ok s
    → grows fs d open_table ≡ true
table_at t [] false s h = refl
table_at t [] true s h = absurd (cc)
table_at t (a_table no_key o ∷ fs) d s h = absurd (cc)
table_at t (a_table key_place o ∷ fs) d s h = absurd (cc)
table_at t (a_table (key_set k) o ∷ fs) d s h = refl
table_at t (an_array kind later ∷ fs) d s h = refl

-- it grows something wherever it is taken
pub record GrowsWhereTaken (i : Item) : Type 0 where
  pub grows_there : (s t : State) → after nesting_limit s i ≡ Ok t → grows_at s i ≡ true

pub array_grows : GrowsWhereTaken open_array
array_grows = record { grows_there = λ s t h. array_at s.text s.open_frames s.is_done t h }

pub table_grows : GrowsWhereTaken open_table
table_grows = record { grows_there = λ s t h. table_at s.text s.open_frames s.is_done t h }
