use Rattle.std.proofs.Common.{◌≡◌, refl, ap, sym, ◌∙◌, rules}
use denote.Hole.Carrier.{out}
use Rattle.basic_toml_grow.specs.declared.item.Item as items
use Rattle.basic_toml_grow.specs.declared.item.Item.TheViews.{out-Item}
use Rattle.basic_toml_grow.specs.declared.item.Child.{out-Child}
use Rattle.basic_toml_grow.proofs.ItemTries.{child_item_trie, table_child_trie}
use Rattle.basic_toml_grow.proofs.SectionTables.{AreMade, section_origins, section_trie, unfolded_origins}
use Rattle.basic_toml_grow.proofs.SectionTables.{unfolded_trie}
use Rattle.basic_toml_grow.proofs.HeadersEntered.{holding_trie}
use Rattle.basic_toml_grow.proofs.Origins.HeadersPlaceOrigins.{holding_origins}
use Rattle.basic_toml_grow.proofs.Origins.OriginsSeen.{child_seen}
use Rattle.basic_toml_grow.proofs.Origins.RowsPlaceOrigins.{child_of_table}
use Rattle.basic_toml_grow.proofs.item.Child.make_entries.Goals as goal
use Rattle.basic_toml_grow.proofs.item.Child.make_entries.Goals.{Joined-self-2, Joined-self-4}

-- the section that stood there
stood : (c : Joined-self-2) → (out-Child c.args.self.now).item ≡ items.Section c.into_rows.result.items
unfolding out-Item out
stood c =
    let same = c.into_rows.ensures.rows ∙ c.replace-table.ensures.value ∙ rw c.in-Section.is refl in
    c.in-Section.is ∙ ap items.Section (sym same)

pub returns-in_ok-table-in-Section : goal.returns-in_ok-table-in-Section
returns-in_ok-table-in-Section c =
    let old = c.args.self.now in
    let made = c.in_ok-table-in-Section in
    let rows = c.into_rows.result.items in
    let plain = c.into_rows.ensures.plain in
    record {
      trie = rw (table_child_trie, child_item_trie old, stood c, made.ensures)
          (sym (section_trie old.section rows plain));
      origins = rw (child_of_table, child_seen old, stood c, made.ensures)
          (sym (section_origins old.section rows plain old.start));
      unfolded = search (rules, items.the_lemmas);
      others = λ e. search (rules, items.the_lemmas, e, c.in-Section.is);
    }

-- the array that stood there
are_made : (c : Joined-self-4) → AreMade c.in-Sections.tables c.in_ok-tables-in-Sections.tables
unfolding out-Item out
are_made c =
    let made = c.in_ok-tables-in-Sections.ensures in
    let same = c.deref_mut.ensures.value ∙ rw c.in-Sections.is refl in
    record { earlier = rw same at made.earlier; latest = rw same at made.latest; simple = rw same at made.simple }

pub returns-in_ok-tables-in-Sections : goal.returns-in_ok-tables-in-Sections
returns-in_ok-tables-in-Sections c =
    let old = c.args.self.now in
    let made = c.in_ok-tables-in-Sections.tables in
    record {
      trie = rw (holding_trie old (items.Tables made), child_item_trie old, c.in-Sections.is)
          (unfolded_trie (are_made c));
      origins = rw (holding_origins old (items.Tables made), child_seen old, c.in-Sections.is)
          (unfolded_origins (are_made c) old.start old.section);
      unfolded = search (rules, items.the_lemmas);
      others = λ e. search (rules, items.the_lemmas, e, c.in-Sections.is);
    }
