-- What a node is found by again is an anchor of what is at its path.
use Rattle.std.proofs.Common.{◌≡◌, ◌==◌, ℕ, Bool, true, false, List, [], Some, arith, refl, sym, ◌∙◌, inl, inr}
use Rattle.std.proofs.Common.{if◌then◌else◌}
use Rattle.std.proofs.lemmas.Bool.{cases_Bool}
use Rattle.basic_toml_grammar.specs.Sections.{Section}
use Rattle.basic_toml_grammar.specs.Steps.{Path}
use Rattle.basic_toml_grammar.specs.IndexedPath.{located}
use Rattle.basic_toml_grammar.specs.Nodes as grammar
use Rattle.basic_toml_grammar.specs.Trie.{standing}
use Rattle.basic_toml_grammar.proofs.Clash.PathsAgree.{append_none}
use Rattle.basic_toml_origin.specs.declared.anchor.Anchor.{Anchor}
use Rattle.basic_toml_origin.specs.declared.anchor.Anchor.TheVariants as anchors
use Rattle.basic_toml_origin.specs.Anchor.{LeadsTo, IsAnchorOf}
use Rattle.basic_toml_grow.proofs.ItemTries.{table_entries_trie}
use Rattle.basic_toml_grow.proofs.ItemsStand.{stands_array, standing_here}
use Rattle.basic_toml_tree.specs.declared.node.Node.{Node}
use Rattle.basic_toml_tree.specs.declared.spot.Spot.{Spot}
use Rattle.basic_toml_tree.specs.declared.spot.Spot.TheVariants as spots
use Rattle.basic_toml_tree.specs.HeaderTables.{table_of}
use Rattle.basic_toml_tree.specs.Origin.{spot_is_made, spot_section, spot_anchor, anchor_of, start_of, is_made}
use Rattle.basic_toml_tree.specs.Stands.{IsNodeAt, is_root, spot_trie}
use Rattle.basic_toml_tree.proofs.Foretold.NodesForetold.{made_foretold, start_foretold}
use Rattle.basic_toml_tree.proofs.Nodes.KeysTold.{any_count, made_leads}
use Rattle.basic_toml_tree.proofs.Nodes.MadeNodes.{is_told}
use Rattle.basic_toml_tree.proofs.Nodes.RowNodesTold.{some_and}

no_steps : (p : Path) → is_root p ≡ true → p ≡ []
no_steps p root = grind arith

-- the anchor of what headers made, and of what they did not
made_anchor : (spot : Spot) (start keys n : ℕ) → spot_is_made 1 spot ≡ true → spot_section spot ≡ Some n
    → spot_anchor spot start keys
    ≡ (if stands_array (standing (spot_trie spot)) then anchors.Array n keys else anchors.Table n keys)
made_anchor (spots.Table b) start keys n made section = grind (arith, table_entries_trie (table_of b))
made_anchor (spots.Item b) start keys n made section = grind (arith, standing_here b.now)
made_anchor (spots.Plain b) start keys n made section = absurd (cc)

row_anchor : (spot : Spot) (start keys : ℕ) → spot_is_made 1 spot ≡ false
    → spot_anchor spot start keys ≡ anchors.Value start keys
row_anchor (spots.Table b) start keys made = rw made refl
row_anchor (spots.Item b) start keys made = grind arith
row_anchor (spots.Plain b) start keys made = refl

module _ (sections : List Section) (p : Path) (node : Node) (is : IsNodeAt sections p node)
    (below : (node.count == 0) ≡ false) where
  -- headers made it, as the section list has it
  made_as : is_made node ≡ grammar.is_made (located sections) p
  made_as = (some_and (grammar.node_at sections p) (made_foretold (is_made node) node refl sections p is)).2

  of_value : is_made node ≡ false → IsAnchorOf sections p (anchors.Value node.start node.count)
  unfolding start_of
  of_value apart =
      let found = some_and (grammar.node_at sections p) (start_foretold (start_of node) node refl sections p is) in
      let same : start_of node ≡ Some node.start = rw apart refl in
      (sym made_as ∙ apart, rw (found.1) (sym found.2 ∙ same), is.stands.count sections is.resolved)

  of_made : (array : Bool) (n : ℕ) → array ≡ grammar.is_array (located sections) p → LeadsTo (located sections) n p
      → IsAnchorOf sections p (if array then anchors.Array n node.count else anchors.Table n node.count)
  of_made true n same leads = (leads, sym same, is.stands.count sections is.resolved)
  of_made false n same leads = (leads, sym same, is.stands.count sections is.resolved)

  by_spot : IsAnchorOf sections p (spot_anchor node.spot node.start node.count)
  by_spot = elim (cases_Bool (is_made node)) [
    | inl made ↦
        let there = sym made_as ∙ made in
        let one = any_count node.spot node.count below ∙ made in
        let n = made_leads sections node.tree.now is.resolved p (sym is.stands.root ∙ below) there node.spot one
        (rw (append_none p) at is.stands.comes.marked) in
        rw (made_anchor node.spot node.start node.count n.0 one n.1) (of_made
        (stands_array (standing (spot_trie node.spot))) n.0 (is_told sections node p is there).1 n.2)
    | inr apart ↦
        rw (row_anchor node.spot node.start node.count (any_count node.spot node.count below ∙ apart)) (of_value apart)
  ]

pub anchored : (anchor : Anchor) (node : Node) → anchor ≡ anchor_of node → (sections : List Section) (p : Path)
    → IsNodeAt sections p node → IsAnchorOf sections p anchor
unfolding anchor_of
anchored anchor node same sections p is = rw same (elim (cases_Bool (node.count == 0)) [
  | inl e ↦ rw e (no_steps p (sym is.stands.root ∙ e))
  | inr e ↦ rw e (by_spot sections p node is e)
])
