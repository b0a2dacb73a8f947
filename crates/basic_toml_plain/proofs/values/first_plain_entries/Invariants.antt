use Rattle.std.proofs.Common.{◌≡◌, ◌≤◌, ◌+◌, ◌-◌, ◌++◌, map, length, take, drop, true}
use Rattle.std.specs.Vec.{vec_len, vec_capacity}
use Rattle.basic_toml_plain.specs.Plain.{are_all_plain}
use Rattle.basic_toml_plain.specs.Values.{value_pair, row_pair}
use Rattle.basic_toml_plain.proofs.values.first_plain_entries.Given as goal

-- the rows passed are moved, in order, so many are to be passed yet, all left are plain, and there is room for them
abbrev pub invariant-loop : goal.invariant-loop
invariant-loop l = record {
  entered : map value_pair l.moved.items ++ map row_pair (take (l.count - l.counter) l.rows)
      ≡ map row_pair (take l.count l.initial.rows);
  left : drop (l.count - l.counter) l.rows ≡ drop l.count l.initial.rows;
  within : l.count - l.counter ≤ length l.rows;
  plain : are_all_plain 0 l.rows ≡ true;
  room : vec_len l.moved + (l.count - l.counter) ≤ vec_capacity l.moved;
}
