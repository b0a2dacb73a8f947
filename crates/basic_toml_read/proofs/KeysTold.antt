-- Keys one after another, up to an offset; and those of a row, as they are gathered.
use Rattle.basic_toml_read.proofs.Common.{refl, inr, ◌≡◌, ℕ, ◌+◌, ◌-◌, ◌<◌, ◌≤◌, List, [], ◌∷◌, ◌++◌, length, ap, sym}
use Rattle.basic_toml_read.proofs.Common.{◌∙◌, arith, append_assoc, length-append, Option, Some, None, Ok, Err, map}
use Rattle.basic_toml_read.proofs.Common.{rules, IsCharBoundary, length-map, map-append, nesting_limit, Text}
use Rattle.basic_toml_read.proofs.Common.{StartsWith, text_at, after_blanks, IsPunctuationEnd, Key, and_then, char_at}
use Rattle.basic_toml_read.proofs.Common.{key_at, if_found, DeepKeys, Hole, HoleInKeys, Stop, Why, Memory, Deep}
use Rattle.basic_toml_read.proofs.Common.{StopsInside, Keyed, keys_of, Leaves, Misses, MissesKey, ReadsKeyAt, AtDeep}
use Rattle.basic_toml_read.proofs.Common.{StopsAtKey, Gathered, key_of, then_some, key_read}
use Rattle.basic_toml_explain.specs.declared.stop.Why.TheVariants as why
use Rattle.basic_toml_read.specs.declared.section.Key as code_keys
use Rattle.basic_toml_grammar.proofs.Nesting.WithinTheLimit as within
use Rattle.basic_toml_grammar.specs.DeepStops.{this_key, later_key}
use Rattle.basic_toml_grammar.proofs.Grammar.ReaderIsComplete.{key_found}
use Rattle.basic_toml_read.proofs.StandsIn.{SameDeep, same_deep, then_deep}
use Rattle.basic_toml_read.proofs.EnoughSteps.{keys_is}
use Rattle.basic_toml_read.proofs.GoesOn.{after, after_from, after_none, after_one, found_from, then_from}
use Rattle.basic_toml_read.proofs.LeftAfter.{sign_there, sign_missing}

-- what the keys are where the first of them is read
keys_by_key : (text : Text) (k : Key) (mid : Text) (o : Option (ℕ × Text)) → key_at text ≡ Some (k, mid)
    → char_at 46 (after_blanks mid) ≡ o
    → keys_of text ≡ if_found o (λ s. and_then (keys_of (after_blanks s.1)) (λ keys. Some (k ∷ keys.0, keys.1)))
    (Some (k ∷ [], mid))
keys_by_key text k mid o e f = keys_is text ∙ then_from _ e ∙ found_from _ _ f

-- the keys up to an offset: those in front of it, and the level of the next
pub record KeysTold (bytes : List ℕ) (at first offset level : ℕ) (front : List code_keys.Key) : Type 0 where
  pub told : keys_of (text_at bytes at) ≡ after (λ keys. map key_of front ++ keys) (keys_of (text_at bytes offset))
  pub level_is : level ≡ first + length front
  pub low : level ≤ nesting_limit + 1
  pub boundary : IsCharBoundary bytes offset
  pub forward : at ≤ offset
  pub deep : SameDeep (DeepKeys nesting_limit level (text_at bytes offset))
      (DeepKeys nesting_limit first (text_at bytes at))
  pub holes : (there : Text) → HoleInKeys (text_at bytes offset) Hole.key there
      → HoleInKeys (text_at bytes at) Hole.key there

pub told_start : (bytes : List ℕ) (at first : ℕ) → first ≤ nesting_limit → IsCharBoundary bytes at
    → KeysTold bytes at first at first []
told_start bytes at first low b =
    let told = after_none (keys_of (text_at bytes at)) in
    search (rules, same_deep)

-- what is known of a stop in keys, where so many are too many
abbrev pub KeysStop : List ℕ → ℕ → ℕ → (ℕ → Type 0) → Stop → Type 0
KeysStop bytes at first TooMany stop = record {
  read : Misses stop.why (keys_of (text_at bytes at)) (λ keys. TooMany (length keys.0));
  inside : StopsInside bytes stop;
  deep : AtDeep (DeepKeys nesting_limit first (text_at bytes at)) stop.why stop.at;
  hole : StopsAtKey (text_at bytes at) stop.why (text_at bytes stop.at);
}

-- nothing is too deep where no key stands
no_key_deep : {level p : ℕ} {text : Text} → key_at text ≡ None → DeepKeys nesting_limit level text p → ⊥
no_key_deep none (this_key h k) = let z : None ≡ Some _ = sym none ∙ key_found k in cc
no_key_deep none (later_key h k s d) = let z : None ≡ Some _ = sym none ∙ key_found k in cc

some_keys : (text : Text) (keys : List Key × Text) → keys_of text ≡ Some keys → 0 < length keys.0
some_keys text keys e =
    let (k, k_is, f) = then_some (key_at text) _ keys (sym (keys_is text) ∙ e) in grind (arith, f)

module _ {bytes : List ℕ} {at first offset level : ℕ} {front : List code_keys.Key}
    (s : KeysTold bytes at first offset level front) where
  -- no key
  pub no_key : (TooMany : ℕ → Type 0) (stop : Stop) → ReadsKeyAt bytes offset (Err stop) → StopsInside bytes stop
      → KeysStop bytes at first TooMany stop
  unfolding after
  no_key TooMany stop missed inside = go stop.why stop.at missed.0 missed.1 inside
    where
      go : (w : Why) (p : ℕ) → MissesKey w (text_at bytes offset) → (w ≡ why.Key → p ≡ offset)
          → StopsInside bytes (record { at = p; why = w })
          → KeysStop bytes at first TooMany (record { at = p; why = w })
      go Memory p m same inside = record { read = tt; inside = inside; deep = tt; hole = tt }
      go why.Key p m same inside = record {
        read = s.told ∙ after_from _ (keys_is (text_at bytes offset) ∙ then_from _ m);
        inside = inside;
        deep = λ q d. no_key_deep m (s.deep.backs q d);
        hole = rw (same refl) (s.holes (text_at bytes offset) HoleInKeys.this_key, m);
      }
      go _ p m same inside = absurd m

  -- a key above the limit
  pub key_too_deep : (TooMany : ℕ → Type 0) → ((n : ℕ) → nesting_limit < first + n - 1 → TooMany n) → (k : Keyed)
      → ReadsKeyAt bytes offset (Ok k) → nesting_limit < level
      → KeysStop bytes at first TooMany (record { at = offset; why = Deep })
  unfolding after
  key_too_deep TooMany many k key h = record {
    read = λ x e.
        let (keys, keys_is, f) = then_some (keys_of (text_at bytes offset)) _ x (sym s.told ∙ e) in
        let there : map key_of front ++ keys.0 ≡ x.0 = cc in
        let counted = simp (length-append, length-map) at (ap length there) in
        many _ (omega (arith, s.level_is, counted, some_keys (text_at bytes offset) keys keys_is));
    inside = inr s.boundary;
    deep = s.deep.leads offset (this_key h (key_read (text_at bytes offset) _ key.0));
    hole = tt;
  }

  module _ (k : Keyed) {end : ℕ} (key : ReadsKeyAt bytes offset (Ok k))
      (blanks : Leaves bytes k.end end (after_blanks (text_at bytes k.end))) (high : level ≤ nesting_limit) where
    abbrev pub this : code_keys.Key
    this = record { text = k.key; offset = offset }

    -- a period and another key
    pub told_more : {next offset' : ℕ} → Leaves bytes next offset' (after_blanks (text_at bytes next))
        → IsPunctuationEnd 46 bytes end (Some next)
        → KeysTold bytes at first offset' (level + 1) (front ++ this ∷ [])
    told_more {next = next} later sign =
        let here = key_read (text_at bytes offset) (key_of this, text_at bytes k.end) key.0 in
        let period : StartsWith 46 (after_blanks (text_at bytes k.end)) end (text_at bytes next) =
        sym blanks.left ∙ sign.0 in
        record {
          told = rw (later.left, map-append key_of front (this ∷ [])) (s.told
              ∙ after_from _ (keys_by_key (text_at bytes offset) (key_of this) (text_at bytes k.end) _ key.0
              (sign_there period))
              ∙ after_one _ _ _ (keys_of (after_blanks (text_at bytes next)))
              (λ keys. sym (append_assoc (map key_of front) (key_of this ∷ []) keys)));
          level_is = omega (arith, s.level_is, length-append front (this ∷ []));
          low = omega arith;
          boundary = later.boundary;
          forward = omega (arith, s.forward, key.2, blanks.forward, later.forward, sign.2);
          deep = rw later.left
              (then_deep (λ p. later_key high here period) (λ p. within.past_key high here period) s.deep);
          holes = λ there d. s.holes there (HoleInKeys.later_key here period (rw later.left at d));
        }

    -- no period
    pub told_last : IsPunctuationEnd 46 bytes end None
        → keys_of (text_at bytes at) ≡ Some (map key_of front ++ key_of this ∷ [], text_at bytes k.end)
    unfolding after
    told_last sign =
        let missed : char_at 46 (after_blanks (text_at bytes k.end)) ≡ None =
        ap (char_at 46) (sym blanks.left) ∙ sign_missing 46 (text_at bytes end) sign in
        s.told ∙ after_from _ (keys_by_key (text_at bytes offset) (key_of this) (text_at bytes k.end) None key.0 missed)

-- the keys of a row, as they are gathered
pub record KeysSoFar (bytes : List ℕ) (at first offset level : ℕ) (old new : Gathered) : Type 0 where
  pub parents : List code_keys.Key
  pub keys : KeysTold bytes at first offset level parents
  pub pushed : new.parents.items ≡ old.parents.items ++ parents
  pub rows : new.rows.items ≡ old.rows.items
  pub elements : new.elements.items ≡ old.elements.items
