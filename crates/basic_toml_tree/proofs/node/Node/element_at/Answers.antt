use Rattle.std.proofs.Common.{◌≡◌, ◌∷◌, [], ◌++◌, length, Some, ap, sym, ◌∙◌, arith, rules, refl, length-append}
use Rattle.std.proofs.Common.{slice_get}
use Rattle.std.proofs.lemmas.Option.{slice_get_read, slice_get_within}
use Rattle.std.proofs.lemmas.List.{length-map}
use Rattle.std.proofs.lemmas.Grind.{common_steps}
use Rattle.basic_toml_grammar.specs.Mentions.{finished}
use Rattle.basic_toml_read.proofs.ViewsSeen.{array_of}
use Rattle.basic_toml_read.specs.SectionView.{raw_of}
use Rattle.basic_toml_grow.proofs.ItemTries.{plain_trie}
use Rattle.basic_toml_plain.specs.Plain.{is_plain, are_plain}
use Rattle.basic_toml_plain.specs.PlainTables.{SectionTable, tables_in}
use Rattle.basic_toml_plain.proofs.PlainValues.{array_within}
use Rattle.basic_toml_grow.specs.declared.item.Item.{the_lemmas, Array, Plain, Rows, Sections, Tables}
use Rattle.basic_toml_tree.specs.Data.{data_of}
use Rattle.basic_toml_tree.specs.Nodes.{node_data, spot_data, elements_in}
use Rattle.basic_toml_tree.proofs.Nodes.NodesInOrder.{array_elements, sections_elements, tables_elements, front_read}
use Rattle.basic_toml_tree.proofs.Nodes.NodesInOrder.{last_read}
use Rattle.basic_toml_tree.specs.declared.spot.HeaderTable.TheVariants.{Entries}
use Rattle.basic_toml_tree.specs.declared.spot.Spot.TheVariants as spots
use Rattle.basic_toml_tree.proofs.Nodes.NodesStand.{literal_given, plain_given, section_among, table_among, table_given}
use Rattle.basic_toml_tree.proofs.ItemData.{plain_item, rows_item}
use Rattle.basic_toml_tree.proofs.ItemData.{raw_no_elements, rows_no_elements}
use Rattle.basic_toml_tree.proofs.node.Node.element_at.Goals as goal

pub returns-in-Some : goal.returns-in-Some
returns-in-Some c =
    let lookup = c.in-Some.ensures.lookup in
    literal_given c.args.self c.element.result c.args.at c.in-Item-Array.field-0 (search (rules))
    c.in-Item-Array.children c.element.result.spot c.in-Some.child.now (search (rules))
    (ap (λ xs. slice_get xs c.args.at) (sym c.deref.ensures.value) ∙ slice_get_read _ _ _ _ refl lookup.3.0 lookup.1)
    c.element.ensures.«data» c.element.ensures.beside c.element.ensures.comes (λ some. grind (arith, common_steps))

pub returns-in-None-clause-data : goal.returns-in-None-clause-data
returns-in-None-clause-data c =
    let here : node_data c.args.self ≡ data_of (Array c.in-Item-Array.children) = search (rules) in
    rw (here, array_elements c.in-Item-Array.children) (simp length-map
    (omega (arith, c.in-None.ensures.lookup.3, ap length c.deref.ensures.value)))

-- tables
pub returns-else-at-earlier-clause-data : goal.returns-else-at-earlier-clause-data
returns-else-at-earlier-clause-data c =
    let whole = c.as_slice-earlier.ensures.value ∙ ap (λ ts. ts.0.items) c.deref-in-Item-Tables.ensures in
    let here : node_data c.args.self ≡ data_of (Tables c.in-Item-Tables.tables) = search (rules) in
    rw (here, tables_elements c.in-Item-Tables.tables) (simp (length-append, length-map)
    (omega (arith, c.in-None-get.ensures.lookup.3, ap length whole, c.if-at-earlier.false)))

pub returns-in-Some-get : goal.returns-in-Some-get
returns-in-Some-get c =
    let tables = c.in-Item-Tables.tables in
    let whole = c.as_slice-earlier.ensures.value ∙ ap (λ ts. ts.0.items) c.deref-in-Item-Tables.ensures in
    let t = c.in-Some-get.table in
    let lookup = c.in-Some-get.ensures.lookup in
    table_given c.args.self c.element_table.result c.args.at c.in-Item-Tables.field-0 (Entries t)
    (search (rules)) (Tables tables) (search (rules)) (table_among tables c.args.at t.now
    (front_read tables.value.0.items (tables.value.1 ∷ []) c.args.at t.now
    (ap (λ ts. slice_get ts c.args.at) (sym whole)
    ∙ slice_get_read _ _ _ _ refl lookup.3.0 lookup.1)))
    c.element_table.ensures.beside c.element_table.ensures.start (λ some. grind (arith, common_steps))

pub returns-then-at-earlier : goal.returns-then-at-earlier
returns-then-at-earlier c =
    let tables = c.in-Item-Tables.tables in
    let whole = c.as_slice-earlier.ensures.value ∙ ap (λ ts. ts.0.items) c.deref-in-Item-Tables.ensures in
    table_given c.args.self c.element_table-then-at-earlier.result c.args.at c.in-Item-Tables.field-0
    (Entries _) (search (rules)) (Tables tables) (search (rules)) (table_among tables c.args.at
    c.deref-then-at-earlier.result.now.1
    (ap (slice_get (tables.value.0.items ++ tables.value.1 ∷ [])) (c.if-at-earlier.true ∙ ap length whole)
    ∙ last_read tables.value.0.items tables.value.1
    ∙ ap Some (sym (ap (λ ts. ts.1) c.deref-then-at-earlier.ensures))))
    c.element_table-then-at-earlier.ensures.beside c.element_table-then-at-earlier.ensures.start
    (λ some. grind (arith, common_steps))

pub returns-in-Some-get-2 : goal.returns-in-Some-get-2
returns-in-Some-get-2 c =
    let tables = c.in-Item-Sections.tables in
    let t : SectionTable = (c.in-Some-get-2.section, c.in-Some-get-2.rows.now) in
    let found = c.in-Some-get-2.ensures in
    let whole = c.deref-in-Item-Sections-2.ensures in
    let at = slice_get_within (tables_in c.deref-in-Item-Sections-2.result.now) c.args.at t found.table in
    table_given c.args.self c.section_element.result c.args.at c.in-Item-Sections.field-0 _ (search (rules))
    (Sections tables) (search (rules)) (section_among tables c.args.at t
    (ap (λ ts. slice_get (tables_in ts) c.args.at) (sym whole) ∙ found.table) found.plain)
    c.section_element.ensures.beside c.section_element.ensures.start
    (λ some. grind (arith, at, whole, c.len-count.ensures))

pub returns-in-None-get-2-clause-data : goal.returns-in-None-get-2-clause-data
returns-in-None-get-2-clause-data c =
    let here : node_data c.args.self ≡ data_of (Sections c.in-Item-Sections.tables) = search (rules) in
    let whole = ap (λ ts. length (tables_in ts)) c.deref-in-Item-Sections-2.ensures in
    rw (here, sections_elements c.in-Item-Sections.tables) (simp length-map
    (omega (arith, c.in-None-get-2.ensures.table, whole)))

-- plain elements
pub returns-in-Item-Plain : goal.returns-in-Item-Plain
returns-in-Item-Plain c =
    let at : c.args.self.spot ≡ spots.Item c.in-Item-Plain.field-0 = search (rules) in
    let is : c.in-Item-Plain.field-0.now ≡ Plain c.in-Item-Plain.array = search (rules) in
    let es = c.elements.result.now in
    let whole : c.in-Item-Plain.field-0.now ≡ Plain es = is ∙ ap Plain (sym c.elements.ensures.elements) in
    plain_given c.args.self es c.args.at c.plain_element.result (ap spot_data at ∙ ap data_of whole ∙ plain_item es)
    (rw (at, whole) (plain_trie es)) (λ start s. rw (at, whole) (search (rules, the_lemmas)))
    c.plain_element.ensures

pub plain_element-requires-in-Array : goal.plain_element-requires-in-Array
plain_element-requires-in-Array c =
    let plain = ap (λ v. is_plain v 0) (sym c.in-Array.is) ∙ c.in-Plain.plain.plain in
    ap (are_plain 0) c.as_slice.ensures.value ∙ array_within c.in-Array.elements 0 plain

pub returns-in-Array : goal.returns-in-Array
returns-in-Array c =
    let es = c.in-Array.elements in
    let seen = ap raw_of c.in-Array.is ∙ array_of es in
    plain_given c.args.self es.items c.args.at c.plain_element-in-Array.result
    (ap spot_data c.in-Plain.is ∙ ap finished seen) (rw (c.in-Plain.is, seen) refl)
    (λ start s. rw (c.in-Plain.is, seen) refl) (rw (c.as_slice.ensures.value) at c.plain_element-in-Array.ensures)

-- what is no array has none
pub returns-in_default-value-clause-data : goal.returns-in_default-value-clause-data
returns-in_default-value-clause-data c =
    let none = ap (λ s. elements_in (spot_data s)) c.in-Plain.is
    ∙ raw_no_elements c.in-Plain.plain.value.now c.in-Plain.plain.plain c.in_default-value.not-Array in
    omega (arith, ap length none)

pub returns-in-Item-Rows-clause-data : goal.returns-in-Item-Rows-clause-data
returns-in-Item-Rows-clause-data c =
    let here : node_data c.args.self ≡ data_of (Rows c.in-Item-Rows._rows) = search (rules) in
    rw (here, rows_item c.in-Item-Rows._rows, rows_no_elements c.in-Item-Rows._rows) (omega arith)
