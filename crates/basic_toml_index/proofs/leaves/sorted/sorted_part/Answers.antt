use Rattle.std.proofs.Common.{List, ◌-◌, take, drop, ap, subst, ◌∙◌, ◌≡◌}
use Rattle.std.specs.List.{list_all}
use Rattle.std.specs.List.Sorted.{IsPermutation}
use Rattle.std.proofs.lemmas.List.Sorted.{IsPermutation-trans}
use Rattle.basic_toml_index.specs.Index.{is_sound}
use Rattle.basic_toml_index.specs.SlotOrder.{AreInOrder, is_low}
use Rattle.basic_toml_index.specs.declared.leaves.Slot.{Slot}
use Rattle.basic_toml_index.proofs.RunsMerged.{run_in_order, all_moved, keys_moved}
use Rattle.basic_toml_index.proofs.leaves.sorted.sorted_part.Goals as goal

moved_thrice : (made first second same last : List Slot) → IsPermutation made first → IsPermutation first second
    → same ≡ second → IsPermutation same last → IsPermutation made last
moved_thrice made first second same last p q is r =
    IsPermutation-trans made second last (IsPermutation-trans made first second p q)
    (subst (λ (ss : List Slot). IsPermutation ss last) is r)

-- sorted by their endings
pub returns-then-are_in_order-clause-keys : goal.returns-then-are_in_order-clause-keys
returns-then-are_in_order-clause-keys g c =
    let keys = g.T.Texts.texts c.args.texts.now in
    keys_moved keys (take (c.args.to - c.args.from) (drop c.args.from keys)) c.in_ok-slots_of.field-0.items
    c.in_ok-slots.slots.items c.in_ok-slots_of.ensures.keys c.in_ok-slots.ensures.moved

pub returns-then-are_in_order-clause-low : goal.returns-then-are_in_order-clause-low
returns-then-are_in_order-clause-low g c =
    all_moved (is_low c.args.to) c.in_ok-slots_of.field-0.items c.in_ok-slots.slots.items c.in_ok-slots.ensures.moved
    c.in_ok-slots_of.ensures.low

pub returns-then-are_in_order-clause-run : goal.returns-then-are_in_order-clause-run
returns-then-are_in_order-clause-run g c =
    let keys = g.T.Texts.texts c.args.texts.now in
    run_in_order keys c.in_ok-slots.slots.items
    (all_moved (is_sound keys) c.in_ok-slots_of.field-0.items c.in_ok-slots.slots.items c.in_ok-slots.ensures.moved
    c.in_ok-slots_of.ensures.sound)
    (subst (AreInOrder keys) c.as_slice.ensures.value (c.are_in_order.ensures.0 c.if-are_in_order.true))

-- by more bytes
pub returns-then-are_in_order-2-clause-keys : goal.returns-then-are_in_order-2-clause-keys
returns-then-are_in_order-2-clause-keys g c =
    let keys = g.T.Texts.texts c.args.texts.now in
    keys_moved keys (take (c.args.to - c.args.from) (drop c.args.from keys)) c.in_ok-slots_of.field-0.items
    c.in_ok-slots-2.slots.items c.in_ok-slots_of.ensures.keys (IsPermutation-trans c.in_ok-slots_of.field-0.items c.in_ok-slots.slots.items c.in_ok-slots-2.slots.items
    c.in_ok-slots.ensures.moved c.in_ok-slots-2.ensures.moved)

pub returns-then-are_in_order-2-clause-low : goal.returns-then-are_in_order-2-clause-low
returns-then-are_in_order-2-clause-low g c =
    all_moved (is_low c.args.to) c.in_ok-slots_of.field-0.items c.in_ok-slots-2.slots.items (IsPermutation-trans c.in_ok-slots_of.field-0.items c.in_ok-slots.slots.items c.in_ok-slots-2.slots.items
    c.in_ok-slots.ensures.moved c.in_ok-slots-2.ensures.moved)
    c.in_ok-slots_of.ensures.low

pub returns-then-are_in_order-2-clause-run : goal.returns-then-are_in_order-2-clause-run
returns-then-are_in_order-2-clause-run g c =
    let keys = g.T.Texts.texts c.args.texts.now in
    run_in_order keys c.in_ok-slots-2.slots.items
    (all_moved (is_sound keys) c.in_ok-slots_of.field-0.items c.in_ok-slots-2.slots.items (IsPermutation-trans c.in_ok-slots_of.field-0.items c.in_ok-slots.slots.items c.in_ok-slots-2.slots.items
    c.in_ok-slots.ensures.moved c.in_ok-slots-2.ensures.moved)
    c.in_ok-slots_of.ensures.sound)
    (subst (AreInOrder keys) c.as_slice-2.ensures.value (c.are_in_order-2.ensures.0 c.if-are_in_order-2.true))

-- by the texts
pub sorted-requires : goal.sorted-requires
sorted-requires g c =
    let keys = g.T.Texts.texts c.args.texts.now in
    record {
      sound = ap (list_all (is_sound keys)) c.as_slice-3.ensures.value
          ∙ all_moved (is_sound keys) c.in_ok-slots_of.field-0.items c.in_ok-slots-2.slots.items (IsPermutation-trans c.in_ok-slots_of.field-0.items c.in_ok-slots.slots.items c.in_ok-slots-2.slots.items
          c.in_ok-slots.ensures.moved c.in_ok-slots-2.ensures.moved)
          c.in_ok-slots_of.ensures.sound;
    }

pub returns-clause-keys : goal.returns-clause-keys
returns-clause-keys g c =
    let keys = g.T.Texts.texts c.args.texts.now in
    keys_moved keys (take (c.args.to - c.args.from) (drop c.args.from keys)) c.in_ok-slots_of.field-0.items
    c.in-Some.slots.items c.in_ok-slots_of.ensures.keys (moved_thrice c.in_ok-slots_of.field-0.items c.in_ok-slots.slots.items c.in_ok-slots-2.slots.items
    c.as_slice-3.result.now c.in-Some.slots.items c.in_ok-slots.ensures.moved c.in_ok-slots-2.ensures.moved
    c.as_slice-3.ensures.value (rw c.in-Some.is at c.in_ok-slots-3.ensures.moved))

pub returns-clause-low : goal.returns-clause-low
returns-clause-low g c =
    all_moved (is_low c.args.to) c.in_ok-slots_of.field-0.items c.in-Some.slots.items (moved_thrice c.in_ok-slots_of.field-0.items c.in_ok-slots.slots.items c.in_ok-slots-2.slots.items
    c.as_slice-3.result.now c.in-Some.slots.items c.in_ok-slots.ensures.moved c.in_ok-slots-2.ensures.moved
    c.as_slice-3.ensures.value (rw c.in-Some.is at c.in_ok-slots-3.ensures.moved))
    c.in_ok-slots_of.ensures.low
