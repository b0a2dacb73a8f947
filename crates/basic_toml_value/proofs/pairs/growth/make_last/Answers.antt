use Rattle.basic_toml_value.specs.Entries.{seen}
use Rattle.basic_toml_value.proofs.KeysSeen.{added_result}
use Rattle.basic_toml_value.proofs.pairs.growth.make_last.Goals as goal

pub returns-clause-entered : goal.returns-clause-entered
returns-clause-entered g c =
    added_result c.args.pairs.now.items (seen c.add.new.pairs.items) c.args.key.now c.in_ok-value.value _ c.add.result
    c.requires.gap.absent c.add.ensures.entered c.add.ensures.stands (c.map.result, c.in_ok-value.ensures)
