-- The offset that names a node in errors, by the section list: where the node begins, but for an array the outer
-- offset.
use Rattle.std.proofs.Common.{if◌then◌else◌, arith, ◌≡◌, ℕ, Bool, false, List, [], ◌∷◌, Option, ap, refl, sym, ◌∙◌}
use Rattle.std.proofs.Common.{rules, codes, ◌++◌, IfSome, bytes_eq}
use Rattle.std.specs.Option.{option_or}
use Rattle.basic_toml_grammar.specs.Sections.{KeyTexts, texts, Raw, Rows, no_rows, row, Section}
use Rattle.basic_toml_grammar.specs.Steps.{Path, begins, steps_of}
use Rattle.basic_toml_grammar.specs.IndexedPath.{Located, located}
use Rattle.basic_toml_grammar.specs.NamedClash.{first_key}
use Rattle.basic_toml_grammar.specs.Nodes.{Node, value_node, node_of_rows, node_of_sections, node_at, is_made, last_at}
use Rattle.basic_toml_grammar.specs.Nodes.{raw_name}
use Rattle.basic_toml_read.specs.declared.section.Raw as raws
use Rattle.basic_toml_read.specs.declared.section.Raw.TheOpen.{Raw-F}
use Rattle.basic_toml_read.specs.declared.section.Element.{Element}
use Rattle.basic_toml_read.specs.declared.section.Row.{Row}
use Rattle.basic_toml_read.specs.declared.section.Rows as code_rows
use Rattle.basic_toml_read.specs.SectionView.{raw_of}
use Rattle.basic_toml_tree.specs.declared.node.Node as nodes
use Rattle.basic_toml_tree.specs.declared.spot.Spot.{Spot}
use Rattle.basic_toml_tree.specs.declared.spot.Spot.TheVariants as spots
use Rattle.basic_toml_tree.specs.Origin.{is_array_literal, spot_name, spot_is_made, start_of, outer_of, offset_of}
use Rattle.basic_toml_tree.specs.Origin.{raw_is_array, last_at as tree_last}
use Rattle.basic_toml_tree.proofs.Nodes.RowNodesTold.{one_of, in_value, or_some, RowTold}

abbrev names_array : List ℕ → Bool
names_array name = bytes_eq name (codes "array")

-- the offset of an array is the outer one, and that of anything else where it begins
abbrev pub Plain : Node → Type 0
Plain n = n.offset ≡ (if names_array n.type_name then n.outer_offset else n.start)

value_plain : (keys : KeyTexts) (outer : Option ℕ) (at : ℕ) (v : Raw) → Plain (value_node keys outer at v)
value_plain keys outer at (Raw.array z) = refl
value_plain keys outer at v = refl

rows_plain : (ls : List Located) (last : Option ℕ) (l : Located) (rows : Rows) (p : Path)
    → IfSome (node_of_rows ls last l rows p) Plain
rows_plain ls last l no_rows p = tt
rows_plain ls last l (row ks at v rows) p =
    let path = l.path ++ steps_of (texts ks) in
    let key_path = texts l.section.header ++ first_key ks in
    one_of (begins path p) (begins p path) _ _ Plain
    (λ _. in_value key_path Plain (value_plain key_path) (λ outer at. refl) _ at v _) (λ _. refl)
    (rows_plain ls last l rows p)

sections_plain : (ls : List Located) (last : Option ℕ) (later : List Located) (p : Path)
    → IfSome (node_of_sections ls last later p) Plain
sections_plain ls last [] p = tt
sections_plain ls last (l ∷ later) p =
    or_some (node_of_rows ls last l l.section.rows p) (node_of_sections ls last later p) Plain
    (rows_plain ls last l l.section.rows p) (sections_plain ls last later p)

pub plain_at : (sections : List Section) (p : Path) → is_made (located sections) p ≡ false
    → IfSome (node_at sections p) Plain
plain_at sections p not = rw not (sections_plain (located sections) (last_at sections) (located sections) p)

literal_name : (count : ℕ) (spot : Spot) → spot_is_made count spot ≡ false
    → names_array (spot_name count spot) ≡ is_array_literal spot
literal_name count (spots.Table b) not = rw not refl
literal_name count (spots.Item b) not = grind arith
literal_name count (spots.Plain b) not =
    ap (λ v. names_array (raw_name (raw_of v))) (sym (raws.roll-out-Raw b.value.now)) ∙ go (raws.out-Raw b.value.now)
  where
    go : (x : Raw-F raws.Raw Element Row code_rows.Rows) → names_array (raw_name (raw_of (raws.roll-Raw x)))
        ≡ raw_is_array x
    go (Raw-F.Array z) = search (rules, raws.the_lemmas)
    go x = search (rules, raws.the_lemmas)

-- a node that headers did not make
module _ (node : nodes.Node) (found : Node) (told : RowTold node found) where
  pub row_place : option_or node.outer (tree_last node.tree.now) ≡ found.outer_offset → Plain found
      → offset_of node ≡ found.offset
  unfolding offset_of start_of outer_of
  row_place outer plain =
      grind (arith, told.made, told.name, told.start, literal_name node.count node.spot told.made)
