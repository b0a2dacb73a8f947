use Rattle.std.proofs.Common.{ap, refl, sym, ◌∙◌}
use Rattle.basic_toml_tree.specs.Nodes.{spot_data}
use Rattle.basic_toml_grow.proofs.SectionTables.{row_child_origins, row_child_trie}
use Rattle.basic_toml_tree.proofs.Nodes.NodesStand.{value_comes}
use Rattle.basic_toml_tree.proofs.Nodes.EntryNodes.{section_row_data}
use Rattle.basic_toml_tree.proofs.node.Node.section_row.Goals as goal

pub returns : goal.returns
returns c =
    let node = c.spot_below.result in
    let s = c.args.section in
    let r = c.args.row.now in
    let is = c.spot_below.ensures in
    record {
      holds = ap spot_data is.spot ∙ sym (section_row_data s r c.requires);
      below = record {
        tree = is.tree;
        count = is.nested;
        trie = rw (is.spot, row_child_trie s r c.requires) refl;
        own = rw (is.spot) refl;
      };
      comes = rw (row_child_origins s r c.requires, ← (is.start))
          (value_comes _ node.spot is.spot node.count node.start s);
      outer = is.outer;
      keys = is.keys;
      row = search (rw (c.as_str.ensures.value) at is.row);
      handed = is.handed;
      count = is.count;
    }
