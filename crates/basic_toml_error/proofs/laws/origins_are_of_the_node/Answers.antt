use Rattle.basic_toml_error.proofs.OriginsOfNodes.{of_the_node}
use Rattle.basic_toml_error.proofs.laws.origins_are_of_the_node.Goals as goal

pub returns : goal.returns
returns c = of_the_node
