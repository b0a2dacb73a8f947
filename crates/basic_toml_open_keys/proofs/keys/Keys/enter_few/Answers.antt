use Rattle.std.proofs.Common.{◌≡◌, ◌≤◌, ℕ, false, List, [], ◌∷◌, ◌++◌, Option, None, MatchOption, length, sym, ◌∙◌, subst, arith}
use Rattle.basic_toml_index.specs.Index.{IsIndex}
use Rattle.basic_toml_index.specs.declared.Index.{Index}
use Rattle.basic_toml_open_keys.specs.Kept.{kept_of}
use Rattle.basic_toml_open_keys.specs.Keys.{is_below, with_key, with_keys, key_before, IsGreatest}
use Rattle.basic_toml_open_keys.specs.PresentKeys.{keys_of, pending_of}
use Rattle.basic_toml_open_keys.specs.declared.names.Names.{Names}
use Rattle.basic_toml_open_keys.specs.declared.keys.Keys.{Keys}
use Rattle.basic_toml_open_keys.proofs.Greatest.{not_among, added_above, added_below, within_more}
use Rattle.basic_toml_open_keys.proofs.keys.Keys.enter_few.Goals as goal

-- without an index there is a greatest key
greatest_of : (index : Option Index) (keys : List (List ℕ)) (P : Type 0) → index ≡ None
    → MatchOption index P (λ i. IsIndex keys i) → P
greatest_of index keys P none searched = subst (λ index. MatchOption index P (λ i. IsIndex keys i)) none searched

with_greatest : (index : Option Index) (keys : List (List ℕ)) (P : Type 0) → index ≡ None → P
    → MatchOption index P (λ i. IsIndex keys i)
with_greatest index keys P none top = subst (λ index. MatchOption index P (λ i. IsIndex keys i)) (sym none) top

-- the greatest key stays it where one is added that is not above it
not_raised : (old : Keys) (names : Names) → old.index ≡ None
    → kept_of names ≡ kept_of old.names ++ pending_of old ∷ []
    → with_keys (kept_of names) ≡ with_key (pending_of old) (with_keys (kept_of old.names))
    → is_below (key_before old.greatest (kept_of old.names)) (pending_of old) ≡ false
    → (old.greatest ≤ length (kept_of names))
    × MatchOption old.index (IsGreatest (key_before old.greatest (kept_of names)) (with_keys (kept_of names)))
    (λ i. IsIndex (kept_of names) i)
not_raised old names none added keys down =
    let before = kept_of old.names in
    let after = kept_of names in
    let top =
    greatest_of old.index before (IsGreatest (key_before old.greatest before) (keys_of old)) none old.searched in (
      within_more before after (pending_of old) old.greatest added old.within,
      with_greatest old.index after (IsGreatest (key_before old.greatest after) (with_keys after)) none
          (added_below before after (pending_of old) old.greatest added keys top old.within down),
    )

pub invariant_of-self-then-is_above : goal.invariant_of-self-then-is_above
invariant_of-self-then-is_above c =
    let old = c.args.self.now in
    let kept = c.in_ok-keep.ensures in
    let before = kept_of old.names in
    let after = kept_of c.keep.new.names in
    let count = c.len-count.result in
    let top =
    greatest_of old.index before (IsGreatest (key_before old.greatest before) (keys_of old)) c.requires old.searched in
    let up = sym c.is_above.ensures ∙ c.if-is_above.true in
    record {
      distinct =
          kept.distinct old.distinct (not_among (key_before old.greatest before) (pending_of old) (keys_of old) top up);
      within = let le : count ≤ length after = omega arith in le;
      searched =
          with_greatest old.index after (IsGreatest (key_before count after) (with_keys after)) c.requires
          (added_above before after (pending_of old) old.greatest kept.ok kept.keys top count c.len-count.ensures up);
    }

pub invariant_of-self-in-Break-branch-3 : goal.invariant_of-self-in-Break-branch-3
invariant_of-self-in-Break-branch-3 c =
    let old = c.args.self.now in
    let kept = c.in_ok-keep-2.ensures in
    let stays =
    not_raised old c.keep-2.new.names c.requires kept.ok kept.keys (sym c.is_above.ensures ∙ c.if-is_above.false) in
    record {
      distinct = kept.distinct old.distinct (sym c.is_among.ensures ∙ c.if-is_among.false);
      within = stays.0;
      searched = stays.1;
    }

pub invariant_of-self-else-len-gt-FEW : goal.invariant_of-self-else-len-gt-FEW
invariant_of-self-else-len-gt-FEW c =
    let old = c.args.self.now in
    let kept = c.in_ok-keep-2.ensures in
    let stays =
    not_raised old c.keep-2.new.names c.requires kept.ok kept.keys (sym c.is_above.ensures ∙ c.if-is_above.false) in
    record {
      distinct = kept.distinct old.distinct (sym c.is_among.ensures ∙ c.if-is_among.false);
      within = stays.0;
      searched = stays.1;
    }
