use Rattle.std.proofs.Common.{◌≡◌, ◌<◌, ◌+◌, ◌-◌, ◌++◌, ◌∷◌, [], List, length, arith, ap, sym, ◌∙◌, subst, append_assoc, true}
use Rattle.basic_toml_index.specs.Index.{joined, leaves_of, slot_at}
use Rattle.basic_toml_index.specs.SlotOrder.{IsRunOfFirst, is_before}
use Rattle.basic_toml_index.specs.declared.leaves.Slot.{Slot}
use Rattle.basic_toml_index.proofs.FirstTexts.{run_push, last_of, some_last}
use Rattle.basic_toml_index.proofs.leaves.first.rising.Goals as goal

pub loop-position-preserved : goal.loop-position-preserved
loop-position-preserved g c =
    let keys = g.T.Texts.texts c.args.texts.now in
    let at = c.loop-position.position in
    let others = joined (leaves_of c.loop-position.leaves.items) in
    let leaf = c.loop-position.leaf.items in
    let row = others ++ leaf in
    let slot = c.slot_of-slot.result in
    let last = c.loop-position.last in
    let before = c.loop-position.invariant.before in
    let row_is : row ≡ (others ++ before) ++ last ∷ [] =
    ap (λ l. others ++ l) c.loop-position.invariant.leaf ∙ sym (append_assoc others before (last ∷ [])) in
    let ends : slot_at row (length row - 1) ≡ last =
    ap (λ r. slot_at r (length r - 1)) row_is ∙ last_of (others ++ before) last in
    let some : 0 < length row = subst (λ (r : List Slot). 0 < length r) (sym row_is) (some_last (others ++ before) last) in
    let up : is_before keys (slot_at row (length row - 1)) slot ≡ true =
    ap (λ l. is_before keys l slot) ends ∙ sym c.is_before.ensures ∙ c.if-not-is_before.false in
    let pushed = c.in_ok-push-3.ensures.items in
    let next : joined (leaves_of c.with_room.new.leaves.items) ++ c.push-in-loop-position.new.self.items ≡ row ++ slot ∷ [] =
    ap (λ l. joined (leaves_of c.with_room.new.leaves.items) ++ l) pushed
    ∙ sym (append_assoc (joined (leaves_of c.with_room.new.leaves.items)) c.in_ok-leaf-2.leaf.items (slot ∷ []))
    ∙ ap (λ r. r ++ slot ∷ []) c.in_ok-leaf-2.ensures.row in
    record {
      filled = c.with_room.ensures.filled;
      before = c.in_ok-leaf-2.leaf.items;
      leaf = pushed;
      first = subst (λ (r : List Slot). IsRunOfFirst keys (at + 1) r) (sym next)
          (run_push keys at row slot (omega (arith, c.count-count.ensures, c.loop-position-test.true)) c.slot_of-slot.ensures.position
          c.slot_of-slot.ensures.sound some up c.loop-position.invariant.first);
    }
