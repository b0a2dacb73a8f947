use Rattle.std.proofs.Common.{◌≡◌, ◌≤◌, ◌+◌, ◌*◌, drop, length, map}
use Rattle.basic_toml_read.specs.SectionView.{elements_from, elements_view, key_of, lined_of, placed_of}
use Rattle.basic_toml_read.specs.SectionView.{rows_from, rows_seen}
use Rattle.basic_toml_origin.specs.Origin.{in_elements, in_rows}
use Rattle.basic_toml_origin.specs.Path.{path_of}
use Rattle.basic_toml_origin.proofs.values.+values.Given as goal

-- what is looked for is among the elements that are left
abbrev pub invariant-in_elements-loop-element : goal.invariant-in_elements-loop-element
invariant-in_elements-loop-element l =
    in_elements (elements_view l.elements) l.number (path_of l.path)
    ≡ in_elements (elements_from (map placed_of (drop l.element-index l.elements))) l.before (path_of l.path)

-- and by the rows that are left, with the keys that are left beside them
abbrev pub invariant-in_rows-loop-row : goal.invariant-in_rows-loop-row
invariant-in_rows-loop-row l =
    (length l.left ≤ length l.parents)
    × (in_rows (rows_seen l.parents l.rows) (path_of l.path)
    ≡ in_rows (rows_from (map key_of l.left) (map lined_of (drop l.row-index l.rows))) (path_of l.path))

-- each key of a row and each number of an element takes a step of the path
abbrev pub decreases-in_row : goal.decreases-in_row
decreases-in_row l = 3 * length l.path.now

abbrev pub decreases-in_rows : goal.decreases-in_rows
decreases-in_rows l = 3 * length l.path.now + 1

abbrev pub decreases-in_value : goal.decreases-in_value
decreases-in_value l = 3 * length l.path.now + 2

abbrev pub decreases-in_elements : goal.decreases-in_elements
decreases-in_elements l = 3 * length l.path.now + 3
