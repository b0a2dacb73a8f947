use Rattle.std.proofs.Common.{arith}
use Rattle.std.proofs.lemmas.Bool.{lt-ltb}
use Rattle.basic_toml_index.specs.Index.{is_sound}
use Rattle.basic_toml_index.specs.SlotOrder.{is_low}
use Rattle.basic_toml_index.proofs.RunsMerged.{slot_more, all_more}
use Rattle.basic_toml_index.proofs.leaves.sorted.slots_of.Goals as goal

pub loop-position-preserved : goal.loop-position-preserved
loop-position-preserved g c =
    let keys = g.T.Texts.texts c.args.texts.now in
    let at = c.loop-position.position in
    let slots = c.loop-position.slots.items in
    let next = c.push_reserved.new.self.items in
    let slot = c.slot_of.result in
    record {
      keys = slot_more keys slots next slot c.args.from at (omega arith) (omega arith) c.slot_of.ensures.position
          c.push_reserved.ensures.items c.loop-position.invariant.keys;
      sound = all_more (is_sound keys) slots next slot c.push_reserved.ensures.items c.loop-position.invariant.sound
          c.slot_of.ensures.sound;
      low = all_more (is_low c.args.to) slots next slot c.push_reserved.ensures.items c.loop-position.invariant.low
          (lt-ltb slot.position c.args.to (omega (arith, c.slot_of.ensures.position)));
      count = omega (arith, c.push_reserved.ensures.len, c.loop-position.invariant.count);
      room = omega (arith, c.push_reserved.ensures.capacity, c.loop-position.invariant.room);
    }
