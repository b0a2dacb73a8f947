-- The greatest key of a table.
use Rattle.std.proofs.Common.{◌≡◌, ℕ, zero, suc, ◌≤◌, Bool, true, false, List, [], ◌∷◌, ◌++◌, length, Some}
use Rattle.std.proofs.Common.{◌+◌, ◌<◌, take, get_or, refl, sym, ap, ◌∙◌, subst, cond, arith, length-append}
use Rattle.std.specs.Str.{bytes_eq}
use Rattle.std.specs.Ordering.{is_lt, nat_cmp, ordering_reverse}
use Rattle.std.specs.declared.cmp.Ordering.{Ordering}
use Rattle.std.specs.declared.cmp.Ordering.TheVariants.{Less, Equal, Greater}
use Rattle.std.specs.Cmp.Lexicographic.{slice_cmp, same_text}
use Rattle.std.proofs.Math.Seq.{get_or-append_seam}
use Rattle.std.proofs.lemmas.List.{get_or_append_left, get_or-take, length-take-le}
use Rattle.std.proofs.lemmas.Cmp.{nat_list_cmp_total}
use Rattle.basic_toml_open_keys.specs.Names.{last_after, last_name}
use Rattle.basic_toml_open_keys.specs.Keys.{PresentKeys, is_below, with_key, with_keys, key_before, IsGreatest}
use Rattle.basic_toml_open_keys.proofs.KeyIsAdded.{with_keys_take}

is_less : (o : Ordering) → is_lt o ≡ true → o ≡ Less
is_less Less e = refl
is_less Equal e = absurd (cc)
is_less Greater e = absurd (cc)

below_trans : (a b c : List ℕ) → is_below a b ≡ true → is_below b c ≡ true → is_below a c ≡ true
below_trans a b c ab bc =
    ap (λ o. is_lt o) (nat_list_cmp_total.trans a b c (is_less (slice_cmp nat_cmp a b) ab)
    (is_less (slice_cmp nat_cmp b c) bc))

own_reverse : (o : Ordering) → o ≡ ordering_reverse o → is_lt o ≡ false
own_reverse Less e = absurd (cc)
own_reverse Equal e = refl
own_reverse Greater e = refl

below_irreflexive : (a : List ℕ) → is_below a a ≡ false
below_irreflexive a = own_reverse (slice_cmp nat_cmp a a) (nat_list_cmp_total.antisymm a a)

not_true : (b : Bool) → (b ≡ true → ⊥) → b ≡ false
not_true true f = absurd (f refl)
not_true false f = refl

-- what holds of one key and of the others, where it is one test
of_both : (a b x : Bool) → cond a true x ≡ true → (a ≡ true → b ≡ false) → (x ≡ true → b ≡ false) → b ≡ false
of_both true b x e f g = f refl
of_both false b x e f g = g e

equal_is : (k q : List ℕ) → bytes_eq k q ≡ true → k ≡ q
equal_is k q e = same_text k q (sym e)

-- a key above the greatest is none of the others
pub not_among : (g k : List ℕ) (keys : PresentKeys) → IsGreatest g keys → is_below g k ≡ true → keys k ≡ false
not_among g k keys top up = not_true (keys k) (λ there. true_not_false (sym up ∙ top k there))
  where
    true_not_false : true ≡ false → ⊥
    true_not_false e = cc

-- a key that is added is not above the greatest
greatest_kept : (g k : List ℕ) (keys : PresentKeys) → IsGreatest g keys → is_below g k ≡ false → IsGreatest g (with_key k keys)
greatest_kept g k keys top down q e = of_both (bytes_eq k q) (is_below g q) (keys q) e (λ same. subst (λ z. is_below g z ≡ false) (equal_is k q same) down) (top q)

-- a key that is added is the greatest
pub greatest_raised : (g k : List ℕ) (keys : PresentKeys) → IsGreatest g keys → is_below g k ≡ true
    → IsGreatest k (with_key k keys)
greatest_raised g k keys top lt q e =
    of_both (bytes_eq k q) (is_below k q) (keys q) e
    (λ same. subst (λ z. is_below k z ≡ false) (equal_is k q same) (below_irreflexive k))
    (λ there. not_true (is_below k q) (λ up. true_not_false (sym (below_trans g k q lt up) ∙ top q there)))
  where
    true_not_false : true ≡ false → ⊥
    true_not_false e = cc

pub key_before_end : (ks : List (List ℕ)) (k : List ℕ) (position : ℕ) → position ≡ length (ks ++ (k ∷ []))
    → key_before position (ks ++ (k ∷ [])) ≡ k
key_before_end ks k zero e = absurd (omega (arith, length-append ks (k ∷ [])))
key_before_end ks k (suc position) e =
    ap (λ z. get_or (ks ++ (k ∷ [])) z []) (omega (arith, length-append ks (k ∷ []))) ∙ get_or-append_seam ks k [] []

last_after_push : (l k : List ℕ) (ks : List (List ℕ)) → last_after l (ks ++ (k ∷ [])) ≡ k
last_after_push l k [] = refl
last_after_push l k (m ∷ ks) = last_after_push m k ks

pub last_name_push : (ks : List (List ℕ)) (k : List ℕ) → last_name (ks ++ (k ∷ [])) ≡ Some k
last_name_push [] k = refl
last_name_push (l ∷ ks) k = ap Some (last_after_push l k ks)

key_before_push : (ks : List (List ℕ)) (k : List ℕ) (position : ℕ) → position ≤ length ks → key_before position (ks ++ (k ∷ [])) ≡ key_before position ks
key_before_push ks k zero le = refl
key_before_push ks k (suc position) le = get_or_append_left ks (k ∷ []) [] position (omega arith)

-- the greatest of keys that one was added to, which is above the others or is not
module _ (ks ks' : List (List ℕ)) (k : List ℕ) (greatest : ℕ) (pushed : ks' ≡ ks ++ (k ∷ [])) (keys : with_keys ks' ≡ with_key k (with_keys ks)) (top : IsGreatest (key_before greatest ks) (with_keys ks)) where
  pub added_above : (count : ℕ) → count ≡ length ks' → is_below (key_before greatest ks) k ≡ true → IsGreatest (key_before count ks') (with_keys ks')
  added_above count all up =
      let last : key_before count ks' ≡ k = ap (key_before count) pushed ∙ key_before_end ks k count (all ∙ ap length pushed) in
      subst (λ g. IsGreatest g (with_keys ks')) (sym last) (subst (IsGreatest k) (sym keys) (greatest_raised (key_before greatest ks) k (with_keys ks) top up))

  pub added_below : greatest ≤ length ks → is_below (key_before greatest ks) k ≡ false → IsGreatest (key_before greatest ks') (with_keys ks')
  added_below within down =
      let same : key_before greatest ks' ≡ key_before greatest ks = ap (key_before greatest) pushed ∙ key_before_push ks k greatest within in
      subst (λ g. IsGreatest g (with_keys ks')) (sym same) (subst (IsGreatest (key_before greatest ks)) (sym keys) (greatest_kept (key_before greatest ks) k (with_keys ks) top down))

pub within_more : (ks ks' : List (List ℕ)) (k : List ℕ) (n : ℕ) → ks' ≡ ks ++ (k ∷ []) → n ≤ length ks → n ≤ length ks'
within_more ks ks' k n pushed le = omega (arith, length-append ks (k ∷ []), ap length pushed)

-- the greatest of the first keys, while one more is looked at
pub none_greatest : (ks : List (List ℕ)) → IsGreatest (key_before 0 ks) (with_keys (take 0 ks))
none_greatest ks key there = absurd (cc)

pub raised_at : (ks : List (List ℕ)) (g i : ℕ) → i < length ks → IsGreatest (key_before g ks) (with_keys (take i ks))
    → is_below (key_before g ks) (get_or ks i []) ≡ true
    → IsGreatest (key_before (i + 1) ks) (with_keys (take (i + 1) ks))
raised_at ks g i lt top up =
    let next : suc i ≡ i + 1 = omega arith in
    subst (λ keys. IsGreatest (key_before (i + 1) ks) keys) (sym (with_keys_take ks i lt))
    (subst (λ n. IsGreatest (key_before n ks) (with_key (get_or ks i []) (with_keys (take i ks)))) next
    (greatest_raised (key_before g ks) (get_or ks i []) (with_keys (take i ks)) top up))

pub kept_at : (ks : List (List ℕ)) (g i : ℕ) → i < length ks → IsGreatest (key_before g ks) (with_keys (take i ks))
    → is_below (key_before g ks) (get_or ks i []) ≡ false → IsGreatest (key_before g ks) (with_keys (take (i + 1) ks))
kept_at ks g i lt top down = subst (IsGreatest (key_before g ks)) (sym (with_keys_take ks i lt))
    (greatest_kept (key_before g ks) (get_or ks i []) (with_keys (take i ks)) top down)

key_before_take : (ks : List (List ℕ)) (g count : ℕ) → g ≤ count → key_before g (take count ks) ≡ key_before g ks
key_before_take ks zero count le = refl
key_before_take ks (suc g) count le = get_or-take count ks g [] (omega arith)

-- it stays so where the others are forgotten
pub greatest_shed : (ks ks' : List (List ℕ)) (g count : ℕ) → ks' ≡ take count ks → g ≤ count
    → IsGreatest (key_before g ks) (with_keys (take count ks)) → IsGreatest (key_before g ks') (with_keys ks')
greatest_shed ks ks' g count is le top =
    subst (λ l. IsGreatest (key_before g l) (with_keys l)) (sym is)
    (subst (λ key. IsGreatest key (with_keys (take count ks))) (sym (key_before_take ks g count le)) top)

pub within_shed : (ks ks' : List (List ℕ)) (g count : ℕ) → ks' ≡ take count ks → count ≤ length ks → g ≤ count
    → g ≤ length ks'
within_shed ks ks' g count is le within = omega (arith, ap length is, length-take-le count ks le)
