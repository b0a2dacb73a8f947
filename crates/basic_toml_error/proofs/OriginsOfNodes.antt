-- In the text of its tree, a type's own error at a node has the origin of what stands at the node's path, and that path.
use Rattle.std.proofs.Common.{refl, ap, option_map, ◌++◌}
use Rattle.std.specs.Option.{option_and_then}
use Rattle.basic_toml_origin.proofs.AnchorsLead.{lead}
use Rattle.basic_toml_tree.specs.Origin.{anchor_of}
use Rattle.basic_toml_tree.proofs.Nodes.NodesAnchored.{anchored}
use Rattle.basic_toml_error.specs.Origins.{about_node, alone, steps_on}
use Rattle.basic_toml_error.specs.Statements.{OriginsAreOfTheNode, PathsAreOfTheNode}

pub of_the_node : OriginsAreOfTheNode
of_the_node text sections grammar p node is offset kind =
    ap (λ path. option_map alone (option_and_then (λ p. about_node sections p kind) path))
    (lead text sections grammar p (anchor_of node) (anchored (anchor_of node) node refl sections p is))

pub path_of_the_node : PathsAreOfTheNode
path_of_the_node text sections grammar p node is offset kind =
    ap (λ path. option_map (λ p. p ++ steps_on kind) path)
    (lead text sections grammar p (anchor_of node) (anchored (anchor_of node) node refl sections p is))
