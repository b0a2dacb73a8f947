use Rattle.std.proofs.Common.{◌≡◌, ◌≤◌, drop, length, map}
use Rattle.basic_toml_read.specs.SectionView.{elements_from, elements_view, key_of, lined_of, placed_of}
use Rattle.basic_toml_read.specs.SectionView.{rows_from, rows_seen}
use Rattle.basic_toml_origin.specs.Crossing.{crossing_among, crossing_by}
use Rattle.basic_toml_origin.proofs.crossing.+crossing.Given as goal

-- what is looked for is by the rows that are left, with the keys that are left beside them
abbrev pub invariant-crossing_by-loop-number : goal.invariant-crossing_by-loop-number
invariant-crossing_by-loop-number l = record {
  within : length l.left ≤ length l.parents;
  left : crossing_by l.offset (rows_seen l.parents l.rows)
      ≡ crossing_by l.offset (rows_from (map key_of l.left) (map lined_of (drop l.number l.rows)));
}

-- and among the elements that are left
abbrev pub invariant-crossing_among-loop-element : goal.invariant-crossing_among-loop-element
invariant-crossing_among-loop-element l =
    crossing_among l.offset (elements_view l.elements)
    ≡ crossing_among l.offset (elements_from (map placed_of (drop l.element-index l.elements)))
