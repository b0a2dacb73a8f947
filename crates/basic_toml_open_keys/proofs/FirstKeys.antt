-- The first keys of a list, and the one after them.
use Rattle.std.proofs.Common.{◌≡◌, ℕ, zero, suc, ◌+◌, ◌-◌, ◌<◌, ◌≤◌, true, false, List, [], ◌∷◌, ◌++◌, IsTrue, Some}
use Rattle.std.proofs.Common.{length, take, get_or, refl, sym, ap, ◌∙◌, arith, unwrap_or, length-append}
use Rattle.std.specs.Prelude.{is_some}
use Rattle.std.specs.Str.{bytes_eq}
use Rattle.std.specs.List.{slice_get}
use Rattle.std.specs.Cmp.Lexicographic.{same_text}
use Rattle.std.proofs.lemmas.List.{get_or-take, length-take-le, take_all, get_or_default, take_more}
use Rattle.basic_toml_index.specs.Keys.{are_distinct}
use Rattle.basic_toml_index.proofs.DistinctKeys.{is_among-before}
use Rattle.basic_toml_open_keys.specs.Names.{last_name}
use Rattle.basic_toml_open_keys.specs.Keys.{with_key, with_keys}
use Rattle.basic_toml_open_keys.proofs.KeyIsAdded.{with_keys_take, with_keys_push, key_absent}
use Rattle.basic_toml_open_keys.proofs.Greatest.{last_name_push}
use Rattle.basic_toml_open_keys.proofs.Naming.{last_name_is}

pub last_there : (ks : List (List ℕ)) (count : ℕ) → 0 < count → count ≤ length ks
    → is_some (last_name (take count ks)) ≡ true
last_there ks zero some le = absurd (omega arith)
last_there [] (suc count) some le = absurd (omega arith)
last_there (k ∷ ks) (suc count) some le = refl

-- the last of the first keys
pub last_at : (ks : List (List ℕ)) (count : ℕ) → 0 < count → count ≤ length ks
    → get_or ks (count - 1) [] ≡ unwrap_or (last_name (take count ks)) []
last_at ks count some le =
    sym (get_or-take count ks (count - 1) [] (omega arith))
    ∙ (ap (λ n. get_or (take count ks) (n - 1) []) (sym (length-take-le count ks le))
    ∙ last_name_is (take count ks) (omega (arith, length-take-le count ks le)))

-- the key after them is the one at its place, and where there is none, this one
pub next_known : (ks : List (List ℕ)) (count : ℕ) (key : List ℕ) → count < length ks
    → get_or ks count [] ≡ get_or ks count key
next_known ks count key lt = get_or_default ks count [] key lt

pub next_unknown : (ks : List (List ℕ)) (count : ℕ) (key : List ℕ) → length ks ≤ count → get_or ks count key ≡ key
next_unknown [] count key le = refl
next_unknown (k ∷ ks) zero key le = absurd (omega arith)
next_unknown (k ∷ ks) (suc count) key le = next_unknown ks count key (omega arith)

pub next_same : (ks : List (List ℕ)) (count : ℕ) (key q : List ℕ) → count < length ks
    → bytes_eq (get_or ks count []) q ≡ true → get_or ks count key ≡ q
next_same ks count key q lt same = get_or_default ks count key [] lt ∙ same_text (get_or ks count []) q (sym same)

at_place : (ks : List (List ℕ)) (i : ℕ) (key : List ℕ) → i < length ks → slice_get ks i ≡ Some (get_or ks i key)
at_place [] i key lt = absurd (omega arith)
at_place (k ∷ ks) zero key lt = refl
at_place (k ∷ ks) (suc i) key lt = at_place ks i key (omega arith)

-- of distinct keys it is none of those before it
pub next_absent : (ks : List (List ℕ)) (count : ℕ) (key : List ℕ) → IsTrue (are_distinct ks) → count < length ks
    → with_keys (take count ks) (get_or ks count key) ≡ false
next_absent ks count key distinct lt = key_absent (take count ks) (get_or ks count key)
    (is_among-before ks count (get_or ks count key) distinct (at_place ks count key lt))

-- one more of them
pub keys_next : (ks : List (List ℕ)) (count : ℕ) (key : List ℕ) → count < length ks
    → with_keys (take (count + 1) ks) ≡ with_key (get_or ks count key) (with_keys (take count ks))
keys_next ks count key lt = with_keys_take ks count lt
    ∙ ap (λ k. with_key k (with_keys (take count ks))) (next_known ks count key lt)

pub last_next : (ks : List (List ℕ)) (count : ℕ) (key : List ℕ) → count < length ks
    → last_name (take (count + 1) ks) ≡ Some (get_or ks count key)
last_next ks count key lt = ap last_name (take_more ks count key lt) ∙ last_name_push (take count ks) (get_or ks count key)

-- all of them, and one more
module _ (ks ks' : List (List ℕ)) (key : List ℕ) (count : ℕ) (pushed : ks' ≡ ks ++ (key ∷ []))
    (all : count ≡ length ks) where
  longer : length ks' ≡ count + 1
  longer = omega (arith, ap length pushed, length-append ks (key ∷ []), all)

  every : take (count + 1) ks' ≡ ks ++ (key ∷ [])
  every = take_all (count + 1) ks' (omega (arith, longer)) ∙ pushed

  pub keys_pushed : with_keys (take (count + 1) ks') ≡ with_key key (with_keys (take count ks))
  keys_pushed = ap with_keys every ∙ (with_keys_push ks key
      ∙ ap (λ l. with_key key (with_keys l)) (sym (take_all count ks (omega (arith, all)))))

  pub last_pushed : last_name (take (count + 1) ks') ≡ Some key
  last_pushed = ap last_name every ∙ last_name_push ks key

  pub within_pushed : count + 1 ≤ length ks'
  within_pushed = omega (arith, longer)
