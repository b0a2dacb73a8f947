use Rattle.std.proofs.Common.{◌≡◌, ◌+◌, ◌-◌, ◌∙◌, length, refl, sym, ap, arith}
use Rattle.std.proofs.lemmas.List.{length-map}
use Rattle.basic_toml_index.specs.Index.{is_sound, leaf_at, leaves_of}
use Rattle.basic_toml_index.proofs.SearchFindsGap.{IsSearched, place_of_searched, holds_of_searched, place_at_end}
use Rattle.basic_toml_index.proofs.SearchFindsGap.{none_at_end}
use Rattle.basic_toml_index.proofs.SlotsInLeaves.{filled_at, all_in_leaf}
use Rattle.basic_toml_index.proofs.leaves.gap.Given.{Over}
use Rattle.basic_toml_index.proofs.leaves.gap.Goals as goal

pub returns-then-is_below-clause-place : goal.returns-then-is_below-clause-place
returns-then-is_below-clause-place g c =
    let leaves = leaves_of c.args.leaves.now in
    let at = length c.args.leaves.now - 1 in
    let slot = length c.leaf-last.result.now in
    let counted = length-map c.args.leaves.now (λ leaf. leaf.items) in
    let some = c.requires.some in
    let at_end : at + 1 ≡ length leaves = omega arith in
    let end : slot ≡ length (leaf_at leaves at) = ap (λ leaf. length leaf) c.leaf-last.ensures in
    let filled = filled_at leaves at c.requires.filled (omega arith) in
    λ absent. place_at_end (g.T.Texts.texts c.args.texts.now) leaves at slot c.args.key.now c.requires (slot - 1)
    at_end (omega arith) (rw (← c.leaf-last.ensures) (sym c.is_below.ensures ∙ c.if-is_below.true)) _ refl refl
    c.ending_of-ending.ensures end

pub returns-then-is_below-clause-holds : goal.returns-then-is_below-clause-holds
returns-then-is_below-clause-holds g c =
    let leaves = leaves_of c.args.leaves.now in
    let at = length c.args.leaves.now - 1 in
    let slot = length c.leaf-last.result.now in
    let counted = length-map c.args.leaves.now (λ leaf. leaf.items) in
    let some = c.requires.some in
    let at_end : at + 1 ≡ length leaves = omega arith in
    let end : slot ≡ length (leaf_at leaves at) = ap (λ leaf. length leaf) c.leaf-last.ensures in
    let filled = filled_at leaves at c.requires.filled (omega arith) in
    let none = none_at_end (g.T.Texts.texts c.args.texts.now) leaves at slot c.args.key.now c.requires (slot - 1)
    at_end (omega arith) (rw (← c.leaf-last.ensures) (sym c.is_below.ensures ∙ c.if-is_below.true)) end in
    λ among. absurd (cc (none, among))

pub slot_for-slot-requires-clause-sound : goal.slot_for-slot-requires-clause-sound
slot_for-slot-requires-clause-sound g c =
    rw c.leaf.ensures (all_in_leaf (is_sound (g.T.Texts.texts c.args.texts.now)) (leaves_of c.args.leaves.now)
    c.leaf_for-at.result c.requires.sound
    (rw (length-map c.args.leaves.now (λ leaf. leaf.items)) c.leaf_for-at.ensures.bound))

-- what the two searches say
searched : (g : Over) (c : goal.After-slot_for-slot g)
    → IsSearched (g.T.Texts.texts c.args.texts.now) (leaves_of c.args.leaves.now) c.leaf_for-at.result
    c.slot_for-slot.result c.args.key.now
searched g c =
    let counted = length-map c.args.leaves.now (λ leaf. leaf.items) in
    record {
      in_leaves = rw counted c.leaf_for-at.ensures.bound;
      in_leaf = rw (← c.leaf.ensures) c.slot_for-slot.ensures.bound;
      not_above = c.leaf_for-at.ensures.not_above;
      next_above = λ more. c.leaf_for-at.ensures.next_above (rw counted at more);
      lower = rw (← c.leaf.ensures) c.slot_for-slot.ensures.before;
      not_lower = rw (← c.leaf.ensures) c.slot_for-slot.ensures.after;
    }

pub returns-clause-place : goal.returns-clause-place
returns-clause-place g c =
    place_of_searched (g.T.Texts.texts c.args.texts.now) (leaves_of c.args.leaves.now) c.leaf_for-at.result
    c.slot_for-slot.result c.args.key.now c.requires (searched g c) _ refl refl c.ending_of-ending.ensures

pub returns-clause-holds : goal.returns-clause-holds
returns-clause-holds g c =
    holds_of_searched (g.T.Texts.texts c.args.texts.now) (leaves_of c.args.leaves.now) c.leaf_for-at.result
    c.slot_for-slot.result c.args.key.now c.requires (searched g c) _ refl refl
