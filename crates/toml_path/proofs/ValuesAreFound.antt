-- The value a step ahead, in what is seen of a value.
use Rattle.std.proofs.Common.{◌≡◌, ℕ, zero, suc, List, [], ◌∷◌, Option, Some, None, Bool, true, false, cond, refl, sym, ap, ◌∙◌}
use Rattle.std.proofs.Common.{map, option_map, slice_get}
use Rattle.std.proofs.Common.{length}
use Rattle.std.proofs.lemmas.Option.{slice_get_past, slice_get_read}
use Rattle.std.specs.Borrow.{Bor}
use Rattle.std.specs.Option.{option_copied, option_and_then}
use Rattle.std.specs.Slice.{IsItemAt}
use Rattle.std.specs.Str.{bytes_eq}
use Rattle.basic_toml_value.specs.Data.{Data, items_of, table_in, array_in}
use Rattle.basic_toml_value.specs.Pairs.{value_at}
use Rattle.basic_toml_value.specs.View.{view, entries, items_view}
use Rattle.basic_toml_value.specs.declared.value.Value.{Value}
use Rattle.toml_path.specs.Find.{at_key, at_number, after}
use Rattle.toml_path.specs.Path.{Step, key, element}

through : (o : Option (Bor Value)) → option_map (λ found. view found.now) o ≡ option_map view (option_copied o)
through None = refl
through (Some found) = refl

key_in_pairs : (name : List ℕ) (pairs : List (List ℕ × Value))
    → option_map view (value_at pairs name) ≡ at_key name (entries pairs)
key_in_pairs name [] = refl
key_in_pairs name (p ∷ ps) = go (bytes_eq name p.0) (key_in_pairs name ps)
  where
    go : (b : Bool) → option_map view (value_at ps name) ≡ at_key name (entries ps)
        → option_map view (cond b (Some p.1) (value_at ps name)) ≡ cond b (Some (view p.1)) (at_key name (entries ps))
    go true e = refl
    go false e = e

pub number_in_values : (values : List Value) (n : ℕ)
    → option_map view (slice_get values n) ≡ at_number n (items_of (map view values))
number_in_values [] n = refl
number_in_values (v ∷ vs) zero = refl
number_in_values (v ∷ vs) (suc n) = number_in_values vs n

pub key_found : (name : List ℕ) (pairs : List (List ℕ × Value)) (o : Option (Bor Value))
    → option_copied o ≡ value_at pairs name → option_map (λ found. view found.now) o ≡ at_key name (entries pairs)
key_found name pairs o is = through o ∙ ap (option_map view) is ∙ key_in_pairs name pairs

pub number_found : (values : List Value) (n : ℕ) (o : Option (Bor Value)) → option_copied o ≡ slice_get values n
    → option_map (λ found. view found.now) o ≡ at_number n (items_of (map view values))
number_found values n o is = through o ∙ ap (option_map view) is ∙ number_in_values values n

-- what `get` of a slice answers
pub item_got : (values : List Value) (n : ℕ) (o : Option (Bor Value)) → IsItemAt values n o
    → option_copied o ≡ slice_get values n
item_got values n None (_, _, _, past, _) = sym (slice_get_past values n past)
item_got values n (Some found) (_, read, _, (within, _), _) =
    sym (slice_get_read values (length values) n found.now refl within read)

-- what stands a step ahead
pub key_ahead : (d : Data) (step : Step) (name text : List ℕ) (pairs : List (List ℕ × Value)) (o : Option (Bor Value))
    → step ≡ key name → text ≡ name → Some (entries pairs) ≡ table_in d → option_copied o ≡ value_at pairs text
    → option_map (λ found. view found.now) o ≡ after d step
key_ahead d step name text pairs o step-is text-is d-is got =
    key_found text pairs o got ∙ ap (λ (t : List ℕ). at_key t (entries pairs)) text-is
    ∙ ap (option_and_then (at_key name)) d-is ∙ ap (after d) (sym step-is)

pub number_ahead : (d : Data) (step : Step) (n : ℕ) (values : List Value) (o : Option (Bor Value)) → step ≡ element n
    → Some (items_view values) ≡ array_in d → IsItemAt values n o
    → option_map (λ found. view found.now) o ≡ after d step
number_ahead d step n values o step-is d-is got =
    number_found values n o (item_got values n o got) ∙ ap (option_and_then (at_number n)) d-is
    ∙ ap (after d) (sym step-is)
