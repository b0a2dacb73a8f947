use Rattle.std.proofs.Common.{◌≡◌, ◌∷◌, ◌+◌, drop, refl}
use Rattle.basic_toml_tree.specs.Nodes.{node_data, elements_in, elements_left}
use Rattle.basic_toml_tree.proofs.Nodes.NodesInOrder.{drop_next, progress}
use Rattle.basic_toml_tree.proofs.entries.ElementsIterator.next.Goals as goal

pub returns : goal.returns
returns c =
    let at = c.args.self.now.at in
    let d = node_data c.in_ok-node.node in
    let all = elements_in (node_data c.args.self.now.array) in
    let first : drop at all ≡ d ∷ drop (at + 1) all = drop_next all at d c.in_ok-node.ensures.«data» in
    record {
      steps = (first, (c.in_ok-node.ensures.stands, refl), refl);
      goes = progress elements_left c.args.self.now _ c.in_ok-node.node d first;
    }
