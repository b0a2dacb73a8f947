use Rattle.std.proofs.Common.{◌≡◌, ◌++◌, map}
use Rattle.std.specs.List.{list_all}
use Rattle.basic_toml_plain.specs.Plain.{are_few_simple}
use Rattle.basic_toml_plain.specs.PlainTables.{all_in}
use Rattle.basic_toml_grow.specs.Simple.{table_of}
use Rattle.basic_toml_grow.proofs.sections.tables_of.Given as goal

-- The tables made, and then those of the blocks left, are all of them. All have few simple rows, where those left have.
abbrev pub invariant-loop-block : goal.invariant-loop-block
invariant-loop-block l = record {
  made : l.earlier.items ++ map table_of (all_in l.block-iterator.rest.items)
      ≡ map table_of (all_in l.initial.block-iterator.rest.items);
  simple : list_all (λ t. are_few_simple 0 t.1) (all_in l.block-iterator.rest.items)
      ≡ list_all (λ t. are_few_simple 0 t.1) (all_in l.initial.block-iterator.rest.items);
}
