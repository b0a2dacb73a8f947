use Rattle.std.proofs.Common.{◌≡◌, refl, ap, sym, ◌∙◌}
use Rattle.basic_toml_plain.specs.Plain.{are_few_simple}
use Rattle.basic_toml_grow.specs.Origins.{item_origins}
use Rattle.basic_toml_grow.specs.Simple.{section_table}
use Rattle.basic_toml_grow.specs.declared.item.Child.{out-Child}
use Rattle.basic_toml_grow.specs.declared.item.Item.{Section}
use Rattle.basic_toml_grow.proofs.Origins.OriginsSeen.{table_item_seen}
use Rattle.basic_toml_grow.proofs.SectionTables.{section_origins}
use Rattle.basic_toml_tree.specs.declared.spot.HeaderTable.TheVariants.{Entries}
use Rattle.basic_toml_tree.proofs.ItemData.{child_item}
use Rattle.basic_toml_tree.proofs.Nodes.NodesCome.{child_table_comes, item_comes}
use Rattle.basic_toml_tree.proofs.Nodes.EntryNodes.{child_is, no_wrapper, section_child_data, section_child_trie}
use Rattle.basic_toml_tree.proofs.spot.Spot.of.Goals as goal

pub returns-in-Table-clause-comes : goal.returns-in-Table-clause-comes
returns-in-Table-clause-comes c = λ count some.
    child_table_comes c.args.child.now c.in-Table.table.value (Entries c.deref.result) count
    (ap (λ i. item_origins i c.args.child.now.start c.args.child.now.section) c.in-Table.is
    ∙ table_item_seen c.in-Table.table c.args.child.now.start c.args.child.now.section) c.deref.ensures some

-- the rows of a section
pub returns-in-Section : goal.returns-in-Section
returns-in-Section c =
    let child = c.args.child.now in
    let rows = c.rows.result.now in
    let is : (out-Child c.args.child.now).item ≡ Section c.rows.result.now =
    c.in-Section.is ∙ ap Section (sym c.rows.ensures.rows) in
    let simple = ap (are_few_simple 0) c.rows.ensures.rows ∙ c.rows.ensures.plain in
    record {
      trie = section_child_trie child rows is simple;
      «data» = section_child_data child rows is simple;
      own = refl;
      comes = λ count some. child_table_comes child (section_table child.section rows) _ count
          (ap (λ i. item_origins i child.start child.section) is
          ∙ section_origins child.section rows simple child.start) refl some;
    }

pub returns-in_default : goal.returns-in_default
returns-in_default c =
    let child = c.args.child.now in
    record {
      trie = child_is child;
      «data» = sym (child_item child);
      own = no_wrapper child.item c.in_default.not-Table c.in_default.not-Section;
      comes = λ count some. item_comes child _ count refl;
    }
