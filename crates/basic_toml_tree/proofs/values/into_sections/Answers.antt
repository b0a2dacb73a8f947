use Rattle.basic_toml_plain.proofs.DataParts.{sections_seen}
use Rattle.basic_toml_tree.proofs.ItemData.{sections_item}
use Rattle.basic_toml_tree.proofs.values.into_sections.Goals as goal

pub returns : goal.returns
returns c = rw (sections_item c.args.tables) (sections_seen _ _ c.in_ok-into_plain_tables.ensures)
