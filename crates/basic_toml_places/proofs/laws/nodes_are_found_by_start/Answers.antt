use Rattle.basic_toml_places.proofs.LawsHold.{found_by_start}
use Rattle.basic_toml_places.proofs.laws.nodes_are_found_by_start.Goals as goal

pub returns : goal.returns
returns c = found_by_start
