use Rattle.std.proofs.Common.{◌≡◌, ◌≤◌, [], ◌∷◌, ◌++◌, drop, length, map}
use Rattle.basic_toml_read.specs.SectionView.{header_texts, key_of, lined_of, rows_from, rows_seen}
use Rattle.basic_toml_origin.specs.Crossing.{first_going_on}
use Rattle.basic_toml_origin.proofs.crossing.first_going_on.Given as goal

-- it is by the rows that are left, with the keys that are left beside them
abbrev pub invariant-loop-row : goal.invariant-loop-row
invariant-loop-row l = record {
  within : length l.left ≤ length l.parents;
  left : first_going_on (header_texts l.keys ++ l.last ∷ []) (rows_seen l.parents l.rows)
      ≡ first_going_on (header_texts l.keys ++ l.last ∷ [])
      (rows_from (map key_of l.left) (map lined_of (drop l.row-index l.rows)));
}
