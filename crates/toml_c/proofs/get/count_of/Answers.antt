use Rattle.std.proofs.Common.{refl}
use Rattle.basic_toml.specs.View.{view}
use Rattle.toml_c.proofs.ValueIsTold.{counts_items, counts_members}
use Rattle.toml_c.proofs.get.count_of.Goals as goal

pub returns-in-Some : goal.returns-in-Some
returns-in-Some c = counts_items (view c.args.value.now) c.in-Some.values.now _ c.in-Some.ensures refl

pub returns-in-Some-as_table : goal.returns-in-Some-as_table
returns-in-Some-as_table c =
    counts_members (view c.args.value.now) c.in-Some-as_table.table.now c.len.result c.in-Some-as_table.ensures
    c.len.ensures
