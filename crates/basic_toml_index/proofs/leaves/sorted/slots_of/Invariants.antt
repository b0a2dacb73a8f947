-- A sound slot stands for each text passed, in order, and there is room for the others.
use Rattle.std.proofs.Common.{◌≡◌, ◌≤◌, ◌-◌, take, drop, map, true}
use Rattle.std.specs.List.{list_all}
use Rattle.std.specs.Vec.{vec_len, vec_capacity}
use Rattle.basic_toml_index.specs.Index.{key_of, is_sound}
use Rattle.basic_toml_index.specs.SlotOrder.{is_low}
use Rattle.basic_toml_index.proofs.leaves.sorted.slots_of.Given as goal

abbrev pub invariant-loop-position : goal.invariant-loop-position
invariant-loop-position g l = record {
  keys : map (key_of (g.T.Texts.texts l.texts)) l.slots.items
      ≡ take (l.position - l.from) (drop l.from (g.T.Texts.texts l.texts));
  sound : list_all (is_sound (g.T.Texts.texts l.texts)) l.slots.items ≡ true;
  low : list_all (is_low l.to) l.slots.items ≡ true;
  count : vec_len l.slots ≡ l.position - l.from;
  room : l.to - l.from ≤ vec_capacity l.slots;
}
