use Rattle.std.proofs.Common.{◌≡◌, ◌≤◌, drop, length, map}
use Rattle.basic_toml_read.specs.SectionView.{elements_from, elements_view, key_of, lined_of, placed_of}
use Rattle.basic_toml_read.specs.SectionView.{rows_from, rows_seen}
use Rattle.basic_toml_places.specs.Places.{path_among, path_by}
use Rattle.basic_toml_origin.specs.Query.{test_of}
use Rattle.basic_toml_origin.proofs.row_path.+paths.Given as goal

-- what is looked for is by the rows that are left, with the keys that are left beside them
abbrev pub invariant-push_path_by-loop-row : goal.invariant-push_path_by-loop-row
invariant-push_path_by-loop-row l =
    (length l.left ≤ length l.parents) × (l.path.items ≡ l.initial.path.items)
    × (path_by (test_of l.query) (rows_seen l.parents l.rows)
    ≡ path_by (test_of l.query) (rows_from (map key_of l.left) (map lined_of (drop l.row-index l.rows))))

-- and among the elements that are left
abbrev pub invariant-push_path_among-loop-number : goal.invariant-push_path_among-loop-number
invariant-push_path_among-loop-number l =
    (l.path.items ≡ l.initial.path.items)
    × (path_among (test_of l.query) 0 (elements_view l.elements)
    ≡ path_among (test_of l.query) l.number (elements_from (map placed_of (drop l.number l.elements))))
