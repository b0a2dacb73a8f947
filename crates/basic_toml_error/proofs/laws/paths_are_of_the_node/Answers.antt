use Rattle.basic_toml_error.proofs.OriginsOfNodes.{path_of_the_node}
use Rattle.basic_toml_error.proofs.laws.paths_are_of_the_node.Goals as goal

pub returns : goal.returns
returns c = path_of_the_node
