-- Keys with their values in memory, and what is seen of them.
use Rattle.std.proofs.Common.{◌≡◌, ℕ, suc, zero, ◌<◌, true, false, List, [], ◌∷◌, ◌++◌, length, refl, sym}
use Rattle.std.proofs.Common.{ap, ◌∙◌, arith, Some, get_or, take, IsTrue, Result, Ok, Err, IfOk, subst}
use Rattle.std.specs.declared.alloc.AllocError.{AllocError}
use Rattle.std.specs.List.{slice_get, slice_set}
use Rattle.std.proofs.lemmas.Bool.{false≢true}
use Rattle.std.proofs.lemmas.List.{map-append}
use Rattle.basic_toml_value.specs.declared.pairs.Pair.{Pair}
use Rattle.basic_toml_value.specs.Text.{text_bytes}
use Rattle.basic_toml_value.specs.Entries.{pair_seen, seen, texts_of}
use Rattle.basic_toml_index.specs.Keys.{is_among, are_distinct}
use Rattle.basic_toml_value.specs.Pairs.{keys_of, has_key}
use Rattle.basic_toml_value.proofs.SeenPairs.{value_at-found, value_at-absent}
use Rattle.basic_toml_index.proofs.DistinctKeys.{slice_get-last, is_among_at, is_among-before}
use Rattle.basic_toml_value.specs.Growth.{with_value, values_of, new_place, EntersKey, FindsOrAdds}
use Rattle.basic_toml_value.specs.declared.pairs.growth.Place.{Place}

take-front : (keys : List (List ℕ)) (key : List ℕ) → take (length keys) (keys ++ key ∷ []) ≡ keys
take-front [] key = refl
take-front (k ∷ ks) key = ap (λ ks. k ∷ ks) (take-front ks key)

module _ {V : Type 0} where
  pub keys_of-seen : (pairs : List (Pair V)) → keys_of (seen pairs) ≡ texts_of pairs
  keys_of-seen [] = refl
  keys_of-seen (p ∷ ps) = ap (λ keys. text_bytes p.key ∷ keys) (keys_of-seen ps)

  pub has_key-seen : (pairs : List (Pair V)) (key : List ℕ) → has_key (seen pairs) key ≡ is_among (texts_of pairs) key
  has_key-seen pairs key = ap (λ keys. is_among keys key) (keys_of-seen pairs)

  pub has_key-found : (pairs : List (Pair V)) (i : ℕ) (key : List ℕ) → slice_get (texts_of pairs) i ≡ Some key
      → has_key (seen pairs) key ≡ true
  has_key-found pairs i key at = has_key-seen pairs key ∙ is_among_at (texts_of pairs) i key at

  pub text_at : (pairs : List (Pair V)) (i : ℕ) (pair : Pair V) → slice_get pairs i ≡ Some pair
      → slice_get (texts_of pairs) i ≡ Some (text_bytes pair.key)
  text_at [] i pair read = absurd (cc)
  text_at (p ∷ ps) zero pair read = let same : p ≡ pair = cc in ap (λ p. Some (text_bytes p.key)) same
  text_at (p ∷ ps) (suc i) pair read = text_at ps i pair read

  -- a key that is found is entered
  pub entered_found : (pairs : List (Pair V)) (old : List (List ℕ × V)) (i : ℕ) (key : List ℕ) (v : V)
      → seen pairs ≡ old → IsTrue (are_distinct (texts_of pairs)) → slice_get (texts_of pairs) i ≡ Some key
      → EntersKey key v old old i
  entered_found pairs old i key v same distinct found =
      let there : has_key old key ≡ true = rw (← same) (has_key-found pairs i key found) in record {
        at = rw (← same) (rw (keys_of-seen pairs) found);
        first = rw (← same) (rw (keys_of-seen pairs) (is_among-before (texts_of pairs) i key distinct found));
        pairs = rw there refl;
      }

  seen-push : (pairs : List (Pair V)) (pair : Pair V) → seen (pairs ++ pair ∷ []) ≡ seen pairs ++ pair_seen pair ∷ []
  seen-push pairs pair = map-append pair_seen pairs (pair ∷ [])

  texts_of-push : (pairs : List (Pair V)) (pair : Pair V)
      → texts_of (pairs ++ pair ∷ []) ≡ texts_of pairs ++ text_bytes pair.key ∷ []
  texts_of-push pairs pair = map-append (λ p. text_bytes p.key) pairs (pair ∷ [])

  length-texts : (pairs : List (Pair V)) → length (texts_of pairs) ≡ length pairs
  length-texts [] = refl
  length-texts (p ∷ ps) = ap suc (length-texts ps)

  -- a key that is absent is entered last
  pub entered_last : (pairs : List (Pair V)) (old : List (List ℕ × V)) (pair : Pair V) (key : List ℕ) (v : V)
      → seen pairs ≡ old → is_among (texts_of pairs) key ≡ false → text_bytes pair.key ≡ key → pair.value ≡ v
      → EntersKey key v old (seen (pairs ++ pair ∷ [])) (length pairs)
  entered_last pairs old pair key v same absent at_key at_value =
      let none : has_key old key ≡ false = rw (← same) (has_key-seen pairs key ∙ absent) in record {
        at = rw (keys_of-seen (pairs ++ pair ∷ []), texts_of-push pairs pair, at_key, ← length-texts pairs)
            (slice_get-last (texts_of pairs) key);
        first = rw (keys_of-seen (pairs ++ pair ∷ []), texts_of-push pairs pair, ← length-texts pairs)
            (rw (take-front (texts_of pairs) (text_bytes pair.key)) absent);
        pairs = rw (none, seen-push pairs pair, same, at_key, at_value) refl;
      }

  pub seen-set : (pairs : List (Pair V)) (i : ℕ) (pair : Pair V) (v : V) → i < length pairs → pair ≡ get_or pairs i pair
      → seen (slice_set pairs i (record { key = pair.key; value = v })) ≡ with_value (seen pairs) i v
  seen-set [] i pair v within read = absurd (omega arith)
  seen-set (p ∷ ps) zero pair v within read = rw (ap (λ x. text_bytes x.key) read) refl
  seen-set (p ∷ ps) (suc i) pair v within read = ap (λ l. pair_seen p ∷ l) (seen-set ps i pair v (omega arith) read)

  pub texts_of-set : (pairs : List (Pair V)) (i : ℕ) (pair : Pair V) (v : V) → i < length pairs
      → pair ≡ get_or pairs i pair
      → texts_of (slice_set pairs i (record { key = pair.key; value = v })) ≡ texts_of pairs
  texts_of-set [] i pair v within read = absurd (omega arith)
  texts_of-set (p ∷ ps) zero pair v within read = rw (ap (λ x. text_bytes x.key) read) refl
  texts_of-set (p ∷ ps) (suc i) pair v within read =
      ap (λ l. text_bytes p.key ∷ l) (texts_of-set ps i pair v (omega arith) read)

  pub length-seen : (pairs : List (Pair V)) → length (seen pairs) ≡ length pairs
  length-seen [] = refl
  length-seen (p ∷ ps) = ap suc (length-seen ps)

  -- the key of the pair at a position
  pub key_at : (pairs : List (Pair V)) (i : ℕ) (pair : Pair V) → i < length pairs → pair ≡ get_or pairs i pair
      → slice_get (keys_of (seen pairs)) i ≡ Some (text_bytes pair.key)
  key_at [] i pair within read = absurd (omega arith)
  key_at (p ∷ ps) zero pair within read = ap (λ x. Some (text_bytes x.key)) (sym read)
  key_at (p ∷ ps) (suc i) pair within read = key_at ps i pair (omega arith) read

  -- the value of the pair at a position
  pub value_at_position : (pairs : List (Pair V)) (i : ℕ) (pair : Pair V) → i < length pairs
      → pair ≡ get_or pairs i pair
      → slice_get (values_of (seen pairs)) i ≡ Some pair.value
  value_at_position [] i pair within read = absurd (omega arith)
  value_at_position (p ∷ ps) zero pair within read = ap (λ x. Some x.value) (sym read)
  value_at_position (p ∷ ps) (suc i) pair within read = value_at_position ps i pair (omega arith) read

  pub length-with_value : (pairs : List (List ℕ × V)) (i : ℕ) (v : V) → length (with_value pairs i v) ≡ length pairs
  length-with_value [] i v = refl
  length-with_value (p ∷ ps) zero v = refl
  length-with_value (p ∷ ps) (suc i) v = ap suc (length-with_value ps i v)

  -- a key that stands at a position stands within
  pub stands_within : (pairs : List (List ℕ × V)) (i : ℕ) (key : List ℕ) → slice_get (keys_of pairs) i ≡ Some key
      → i < length pairs
  stands_within [] i key at = absurd (cc)
  stands_within (p ∷ ps) zero key at = omega arith
  stands_within (p ∷ ps) (suc i) key at = let below : i < length ps = stands_within ps i key at in omega arith

  -- a value stands where a key does
  pub value_beside : (pairs : List (List ℕ × V)) (i : ℕ) (key : List ℕ) → slice_get (keys_of pairs) i ≡ Some key
      → (v : V) × (slice_get (values_of pairs) i ≡ Some v)
  value_beside [] i key at = absurd (cc)
  value_beside (p ∷ ps) zero key at = (p.1, refl)
  value_beside (p ∷ ps) (suc i) key at = value_beside ps i key at

  -- a key that is found is not new
  pub found_again : (pairs : List (Pair V)) (old : List (List ℕ × V)) (i : ℕ) (key : List ℕ) (made : V → Type 0)
      → seen pairs ≡ old → IsTrue (are_distinct (texts_of pairs)) → slice_get (texts_of pairs) i ≡ Some key
      → FindsOrAdds made key old old (record { position = i; is_new = false })
  found_again pairs old i key made same distinct found =
      let at : slice_get (keys_of old) i ≡ Some key = rw (← same) (rw (keys_of-seen pairs) found) in
      let value = value_beside old i key at in
      let there : has_key old key ≡ true = rw (← same) (has_key-found pairs i key found) in record {
        there = value.0;
        stands = value.1;
        entered = entered_found pairs old i key value.0 same distinct found;
        is_new = rw there refl;
        made = λ new. absurd (cc);
      }

  -- a key that is there is not absent
  pub not_absent : (pairs : List (Pair V)) (old : List (List ℕ × V)) (key : List ℕ) → seen pairs ≡ old
      → is_among (texts_of pairs) key ≡ false → has_key old key ≡ true → ⊥
  not_absent pairs old key same absent there =
      false≢true (sym absent ∙ sym (has_key-seen pairs key) ∙ ap (λ ps. has_key ps key) same ∙ there)

  -- a key that is absent is new
  pub added_last : (pairs : List (Pair V)) (old new : List (List ℕ × V)) (i : ℕ) (key : List ℕ) (v : V)
      (gives : V → Type 0) → seen pairs ≡ old → is_among (texts_of pairs) key ≡ false
      → EntersKey key v (seen pairs) new i → slice_get (values_of new) i ≡ Some v → gives v
      → FindsOrAdds gives key old new (record { position = i; is_new = true })
  added_last pairs old new i key v gives same absent entered stands given =
      let none : has_key old key ≡ false = rw (← same) (has_key-seen pairs key ∙ absent) in record {
        there = v;
        stands = stands;
        entered = rw (← same) entered;
        is_new = rw none refl;
        made = λ new. given;
      }

  pub added_result : (pairs : List (Pair V)) (new : List (List ℕ × V)) (key : List ℕ) (v : V) (gives : V → Type 0)
      (r : Result ℕ AllocError) → is_among (texts_of pairs) key ≡ false
      → IfOk r (λ i. EntersKey key v (seen pairs) new i) → IfOk r (λ i. slice_get (values_of new) i ≡ Some v) → gives v
      → IfOk r (λ i. FindsOrAdds gives key (seen pairs) new (new_place i))
  added_result pairs new key v gives (Ok i) absent entered stands given =
      added_last pairs (seen pairs) new i key v gives refl absent entered stands given
  added_result pairs new key v gives (Err e) absent entered stands given = tt

  -- the same of pairs that are seen so
  pub seen_before : {gives : V → Type 0} {key : List ℕ} {ps old new : List (List ℕ × V)} {p : Place} → ps ≡ old
      → FindsOrAdds gives key ps new p → FindsOrAdds gives key old new p
  seen_before {gives = gives} {key = key} {new = new} {p = p} same found =
      subst (λ (ps : List (List ℕ × V)). FindsOrAdds gives key ps new p) same found

  -- a value stands where it was put last
  pub value_last : (pairs : List (Pair V)) (pair : Pair V)
      → slice_get (values_of (seen (pairs ++ pair ∷ []))) (length pairs) ≡ Some pair.value
  value_last [] pair = refl
  value_last (p ∷ ps) pair = value_last ps pair

pub ruleset keys_seen = (keys_of-seen, has_key-seen, has_key-found, value_at-found, value_at-absent)
