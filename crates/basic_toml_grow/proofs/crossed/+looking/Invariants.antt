use Rattle.std.proofs.Common.{◌≡◌, List, drop, map}
use Rattle.basic_toml_grammar.specs.Sections.{Key}
use Rattle.basic_toml_read.specs.SectionView.{elements_view, lined_of, rows_from, rows_seen}
use Rattle.basic_toml_grow.specs.Crossed.{crossed_among, crossed_within}
use Rattle.basic_toml_grow.proofs.crossed.+looking.Given as goal

-- what is crossed in the values of all is crossed in those that are left
abbrev pub invariant-look_through-loop-row : goal.invariant-look_through-loop-row
invariant-look_through-loop-row l =
    (parents : List Key) × (crossed_within (rows_seen l.fn.parents l.rows)
    ≡ crossed_within (rows_from parents (map lined_of (drop l.row-index l.rows))))

abbrev pub invariant-look_among-loop-element : goal.invariant-look_among-loop-element
invariant-look_among-loop-element l =
    crossed_among (elements_view l.elements) ≡ crossed_among (elements_view (drop l.element-index l.elements))
