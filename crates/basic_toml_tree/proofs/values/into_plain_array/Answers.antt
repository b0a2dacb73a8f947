use Rattle.basic_toml_tree.proofs.ItemData.{plain_seen}
use Rattle.basic_toml_tree.proofs.values.into_plain_array.Goals as goal

pub returns : goal.returns
returns c = plain_seen _ _ (rw c.into_elements.ensures.elements at c.in_ok-into_plain_values.ensures)
