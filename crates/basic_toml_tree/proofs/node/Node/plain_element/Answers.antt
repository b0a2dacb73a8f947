use Rattle.std.proofs.Common.{ap, refl, ◌∙◌, Some}
use Rattle.basic_toml_read.specs.SectionView.{placed_of}
use Rattle.basic_toml_read.proofs.ViewsSeen.{placed_is}
use Rattle.basic_toml_tree.proofs.Nodes.NodesInOrder.{mapped_read}
use Rattle.basic_toml_tree.proofs.node.Node.plain_element.Goals as goal

pub returns-clause-some : goal.returns-clause-some
returns-clause-some c =
    let read = c.in_ok-element.ensures.lookup in
    let e = c.in_ok-element.element.now in
    record {
      plain = _;
      spot = refl;
      placed = mapped_read placed_of c.args.elements.now c.args.at e read.3.0 read.1 ∙ ap Some (placed_is e);
      beside = record { tree = refl; count = refl; spot = refl; outer = refl; trail = refl };
    }
