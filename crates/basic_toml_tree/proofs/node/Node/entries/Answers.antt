use Rattle.std.proofs.Common.{ap, ◌∙◌, refl}
use Rattle.basic_toml_tree.specs.Nodes.{is_table}
use Rattle.basic_toml_tree.proofs.ItemData.{table_members}
use Rattle.basic_toml_tree.proofs.Nodes.EntryNodes.{keys_apart, table_in, whole}
use Rattle.basic_toml_tree.proofs.Nodes.NodesInOrder.{distinct_keys}
use Rattle.basic_toml_tree.proofs.node.Node.entries.Goals as goal

pub returns-in-Rows : goal.returns-in-Rows
returns-in-Rows c =
    let spot = c.args.self.spot in
    let f = c.in_ok-table.field-0 in
    let table = c.in_ok-table.ensures in
    let same = table.«data» ∙ whole spot f table.fields 0 in
    record {
      entries = (ap is_table (same ∙ table_members (table_in f 0)), refl);
      distinct = distinct_keys _ (table_in f 0) same (keys_apart spot f table.fields c.in-Rows.is);
      stand = refl;
    }
