use Rattle.std.proofs.Common.{◌≡◌, true, arith, sym, ◌∙◌}
use Rattle.std.proofs.lemmas.Grind.{common_steps}
use Rattle.basic_toml_value.specs.Entries.{seen}
use Rattle.basic_toml_value.proofs.Sizes.{data_size-at, data_size-pair}
use Rattle.basic_toml.proofs.NestsWithin.{entry_within, entry_valid, valid_string, valid_table}
use Rattle.basic_toml.proofs.nesting.+nests.Goals as goal

pub elements_nest_within-value_nests_within-requires : goal.elements_nest_within-value_nests_within-requires
elements_nest_within-value_nests_within-requires t c =
    let smaller = data_size-at c.args.values.now c.loop-i.i c.index-values-i.result c.loop-i-test.true c.index-values-i.is in
    (omega arith, tt)

pub entries_nest_within-value_nests_within-requires : goal.entries_nest_within-value_nests_within-requires
entries_nest_within-value_nests_within-requires t c =
    let smaller = data_size-pair c.args.pairs.now c.loop-i.i c.index-pairs-i.result c.loop-i-test.true c.index-pairs-i.is
    in
    (omega arith, tt)

pub entries_nest_within-loop-i-preserved : goal.entries_nest_within-loop-i-preserved
entries_nest_within-loop-i-preserved t c =
    let yes : c.value_nests_within.result ≡ true = grind (arith, common_steps) in
    record {
      within =
          entry_within c.args.pairs.now c.loop-i.i c.index-pairs-i.result c.loop-i-test.true c.index-pairs-i.is
          c.args.room (sym c.value_nests_within.ensures.within ∙ yes) ∙ c.loop-i.invariant.within;
      valid = λ more. c.loop-i.invariant.valid
          (entry_valid c.args.pairs.now c.loop-i.i c.index-pairs-i.result c.loop-i-test.true c.index-pairs-i.is
          c.args.room (c.value_nests_within.ensures.valid yes) more);
    }

pub table_nests_within-returns-then-room-gt0-clause-valid : goal.table_nests_within-returns-then-room-gt0-clause-valid
table_nests_within-returns-then-room-gt0-clause-valid t c = λ yes.
    valid_table c.args.table.now (seen c.entries.result.now) c.entries.ensures.pairs c.entries.ensures.distinct
    (c.entries_nest_within.ensures.valid yes)

pub value_nests_within-returns-in-String-clause-valid : goal.value_nests_within-returns-in-String-clause-valid
value_nests_within-returns-in-String-clause-valid t c = λ yes.
    valid_string c.args.value.now c.in-String._text c.in-String.is
