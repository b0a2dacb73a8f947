use Rattle.basic_toml_tree.proofs.ItemData.{item_is_table, raw_is_table}
use Rattle.basic_toml_tree.proofs.spot.Spot.kind.Goals as goal

pub returns-in-Rows-clause-kind : goal.returns-in-Rows-clause-kind
returns-in-Rows-clause-kind c = rw (c.in-Item.is) (item_is_table c.in-Item.item.now c.in-Rows.is)

pub returns-in-Inline-clause-kind : goal.returns-in-Inline-clause-kind
returns-in-Inline-clause-kind c =
    rw (c.in-Plain.is) (raw_is_table c.in-Plain.plain.value.now c.in-Inline.field-0 c.in-Inline.is)
