use Rattle.std.proofs.Common.{◌≡◌, ◌∙◌, List, ℕ, ◌<◌, true, length, ap, sym, Some}
use Rattle.std.specs.List.{list_all}
use Rattle.std.specs.declared.alloc.Global.{Global}
use Rattle.std.proofs.Common.{Vec}
use Rattle.std.proofs.lemmas.List.{length-map}
use Rattle.basic_toml_index.specs.Index.{is_sound, leaf_at, leaves_of, slot_at, joined, key_of}
use Rattle.basic_toml_index.specs.declared.leaves.Slot.{Slot}
use Rattle.basic_toml_index.proofs.SlotsInLeaves.{all_in_leaf, all_at}
use Rattle.basic_toml_index.proofs.KeysOfSlots.{slice_get-key_of}
use Rattle.basic_toml_index.proofs.SearchFindsGap.{has}
use Rattle.basic_toml_index.proofs.leaves.search.Goals as goal

-- the slot that is read is sound
sound_at : (keys : List (List ℕ)) (leaves : List (Vec Slot Global)) (leaf : List Slot) (at index : ℕ)
    → list_all (is_sound keys) (joined (leaves_of leaves)) ≡ true →
    at < length leaves → leaf ≡ leaf_at (leaves_of leaves) at → index < length leaf
    → is_sound keys (slot_at leaf index) ≡ true
sound_at keys leaves leaf at index sound within is low =
    all_at (is_sound keys) leaf index (record { ending = 0; position = 0 })
    (rw is (all_in_leaf (is_sound keys) (leaves_of leaves) at sound (rw (length-map leaves (λ l. l.items)) within))) low

pub is_at-requires-clause-sound : goal.is_at-requires-clause-sound
is_at-requires-clause-sound g c =
    sound_at (g.T.Texts.texts c.args.texts.now) c.args.leaves.now c.leaf-leaf.result.now c.gap-gap.result.leaf
    c.gap-gap.result.slot c.requires.sound c.gap-gap.ensures.in_leaves c.leaf-leaf.ensures c.if-gap-leaf.true

pub returns-then-is_at-clause-found : goal.returns-then-is_at-clause-found
returns-then-is_at-clause-found g c =
    slice_get-key_of (g.T.Texts.texts c.args.texts.now) (slot_at c.leaf-leaf.result.now c.gap-gap.result.slot)
    (sound_at (g.T.Texts.texts c.args.texts.now) c.args.leaves.now c.leaf-leaf.result.now c.gap-gap.result.leaf
    c.gap-gap.result.slot c.requires.sound c.gap-gap.ensures.in_leaves c.leaf-leaf.ensures c.if-gap-leaf.true)
    ∙ ap (λ key. Some key) (c.is_at.ensures.0 c.if-is_at.true)

pub returns-then-is_at-clause-among : goal.returns-then-is_at-clause-among
returns-then-is_at-clause-among g c =
    let keys = g.T.Texts.texts c.args.texts.now in
    let leaves = leaves_of c.args.leaves.now in
    let at = c.gap-gap.result.leaf in
    let slot = c.gap-gap.result.slot in
    has keys leaves at slot c.args.key.now c.requires
    (rw (length-map c.args.leaves.now (λ leaf. leaf.items)) c.gap-gap.ensures.in_leaves)
    (rw (← c.leaf-leaf.ensures) c.if-gap-leaf.true)
    (sym (ap (λ l. key_of keys (slot_at l slot)) c.leaf-leaf.ensures) ∙ c.is_at.ensures.0 c.if-is_at.true)
