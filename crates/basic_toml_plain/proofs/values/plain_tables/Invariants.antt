use Rattle.std.proofs.Common.{◌≡◌, ◌≤◌, ◌+◌, ◌-◌, map, take}
use Rattle.std.specs.Vec.{vec_len, vec_capacity}
use Rattle.basic_toml_value.specs.View.{view}
use Rattle.basic_toml_plain.specs.PlainTables.{tables_in}
use Rattle.basic_toml_plain.specs.Values.{section_data}
use Rattle.basic_toml_plain.proofs.values.plain_tables.Given as goal

-- the tables passed are copied, in order, and there is room for the others
abbrev pub invariant-loop-at : goal.invariant-loop-at
invariant-loop-at l =
    (map view l.copies.items ≡ map (λ t. section_data t.1) (take l.at (tables_in l.tables)))
    × (vec_len l.copies + (l.count - l.at) ≤ vec_capacity l.copies)
