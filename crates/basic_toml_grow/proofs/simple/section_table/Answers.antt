use Rattle.basic_toml_plain.proofs.SimpleKeys.{few_are_plain}
use Rattle.basic_toml_grow.proofs.simple.section_table.Goals as goal

pub first_table-requires-clause-plain : goal.first_table-requires-clause-plain
first_table-requires-clause-plain c = rw c.drain.ensures (few_are_plain 0 c.args.rows.items c.requires)
