use Rattle.std.proofs.Common.{◌≡◌, ◌++◌, map}
use Rattle.basic_toml_value.specs.View.{view}
use Rattle.basic_toml_plain.specs.PlainTables.{all_in}
use Rattle.basic_toml_plain.specs.Values.{section_data}
use Rattle.basic_toml_plain.proofs.values.into_plain_tables.Given as goal

-- the tables of the blocks passed are moved, in order
abbrev pub invariant-loop-block : goal.invariant-loop-block
invariant-loop-block l =
    map view l.moved.items ++ map (λ t. section_data t.1) (all_in l.block-iterator.rest.items)
    ≡ map view l.initial.moved.items ++ map (λ t. section_data t.1) (all_in l.initial.block-iterator.rest.items)
