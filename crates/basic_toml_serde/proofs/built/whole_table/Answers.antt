use Rattle.std.proofs.Common.{◌∷◌, ◌∙◌, ap}
use Rattle.std.specs.Vec.Iter.{into_iter_items}
use Rattle.basic_toml_value.specs.View.{entries}
use Rattle.basic_toml_serde.proofs.ItemsAreBuilt.{whole_table}
use Rattle.basic_toml_serde.proofs.built.whole_table.Goals as goal

pub returns-in-None-next : goal.returns-in-None-next
returns-in-None-next c =
    whole_table c.args.rest.now c.entries_of.new.rest (into_iter_items c.next.new.self)
    (entries c.in_ok-table-in-Some-OpenTable.table)
    (c.in-Some-OpenTable.ensures.items ∙ ap (λ f. f ∷ into_iter_items c.next.new.self) c.in-Some-OpenTable.field-0-is)
    c.in_ok-table-in-Some-OpenTable.ensures c.in-None-next.ensures.cases.0
