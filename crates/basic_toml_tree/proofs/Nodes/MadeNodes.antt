-- What headers made, as the tree has it and as the section list foretells it.
use Rattle.std.proofs.Common.{arith, ◌≡◌, inl, inr, ◌==◌, ℕ, Bool, true, false, List, [], ◌∷◌, refl, ap, sym, ◌∙◌, map}
use Rattle.std.proofs.Common.{codes, if◌then◌else◌}
use Rattle.basic_toml_grammar.specs.Sections.{Section}
use Rattle.basic_toml_grammar.specs.Steps.{Path}
use Rattle.basic_toml_grammar.specs.IndexedPath.{located}
use Rattle.basic_toml_grammar.specs.Trie.{Trie, nothing, standing, below}
use Rattle.basic_toml_grammar.specs.Nodes as grammar
use Rattle.basic_toml_grammar.proofs.Tries.MarksInATrie.{descend, standing_of}
use Rattle.basic_toml_grammar.proofs.Tries.SectionsInATrie.{marks_put}
use Rattle.basic_toml_grow.specs.declared.item.Table.{Table}
use Rattle.basic_toml_tree.specs.declared.node.Node.{Node}
use Rattle.basic_toml_tree.specs.declared.spot.Spot.{Spot}
use Rattle.basic_toml_tree.specs.declared.spot.Spot.TheVariants as spots
use Rattle.basic_toml_grow.specs.Item.{table_trie}
use Rattle.basic_toml_tree.specs.Headers.{last_of}
use Rattle.basic_toml_tree.specs.HeaderTables.{table_of}
use Rattle.basic_toml_tree.specs.Origin.{spot_is_made, is_made, spot_name, last_at, spot_is_borrowed}
use Rattle.basic_toml_tree.specs.FirstStop.{Stands}
use Rattle.basic_toml_tree.specs.Resolve.{IsResolved, head}
use Rattle.basic_toml_tree.specs.Stands.{trie_at, tree_trie, spot_trie, wraps_table, is_root, IsNodeAt, StandsAt}
use Rattle.basic_toml_tree.specs.Outer.{stands_made}
use Rattle.basic_toml_tree.proofs.HeadersMake.{made_is, array_is}
use Rattle.basic_toml_grow.proofs.ItemTries.{table_entries_trie}
use Rattle.basic_toml_grow.proofs.ItemsStand.{stands_array, standing_here}
use Rattle.basic_toml_tree.specs.declared.tree.Tree.{Tree}

same_way : (p : Path) (t : Trie) → trie_at p t ≡ descend p t
same_way [] t = refl
same_way (s ∷ p) t = same_way p (below s t)

none_below : (p : Path) → trie_at p nothing ≡ nothing
none_below [] = refl
none_below (s ∷ p) = none_below p

-- what the trie of sections tells of a path
pub made_in_trie : (sections : List Section) (t : Trie) → Stands sections t → (p : Path) → is_root p ≡ false
    → grammar.is_made (located sections) p ≡ stands_made (standing (trie_at p t))
made_in_trie sections t stands [] below = absurd (cc)
made_in_trie sections t (inl put) (s ∷ p) below =
    let st = marks_put sections t put in
    rw (same_way (s ∷ p) t, st.2, standing_of st.0 (s ∷ p)) (made_is sections st.0 st.1 s p)
made_in_trie sections t (inr none) (s ∷ p) below = rw (none.0, none.1, none_below p) refl

pub array_in_trie : (sections : List Section) (t : Trie) → Stands sections t → (p : Path)
    → grammar.is_array (located sections) p ≡ stands_array (standing (trie_at p t))
array_in_trie sections t (inl put) p =
    let st = marks_put sections t put in rw (same_way p t, st.2, standing_of st.0 p) (array_is sections st.0 st.1 p)
array_in_trie sections t (inr none) [] = rw (none.0, none.1) refl
array_in_trie sections t (inr none) (s ∷ p) = rw (none.0, none.1, none_below p) refl

abbrev pub made_name : Bool → List ℕ
made_name b = if b then codes "array" else codes "table"

-- that headers made what is here, its name, and that it is no string
pub record IsMade (count : ℕ) (spot : Spot) : Type 0 where
  pub made : spot_is_made count spot ≡ true
  pub name : spot_name count spot ≡ made_name (stands_array (standing (spot_trie spot)))
  pub slice : spot_is_borrowed spot ≡ false

-- what stands as made, and the root
pub spot_made : (count : ℕ) (spot : Spot) → wraps_table spot ≡ false → stands_made (standing (spot_trie spot)) ≡ true
    → IsMade count spot
spot_made count (spots.Table b) own made = grind (arith, table_entries_trie (table_of b))
spot_made count (spots.Item b) own made = grind (arith, standing_here b.now)
spot_made count (spots.Plain b) own made = absurd (cc)

pub root_made : (count : ℕ) (spot : Spot) (t : Table) → wraps_table spot ≡ false → (count == 0) ≡ true
    → spot_trie spot ≡ table_trie t → IsMade count spot
root_made count (spots.Table b) t own none same = grind (arith, table_entries_trie (table_of b))
root_made count (spots.Item b) t own none same = grind (arith, standing_here b.now, table_entries_trie t)
root_made count (spots.Plain b) t own none same = grind (arith, table_entries_trie t)

-- a node that stands at the root of a tree, and where the trie of the tree has what headers made
module _ (tree : Tree) (node : Node) (p : Path) (stands : StandsAt tree p node) where
  pub root_at : p ≡ [] → IsMade node.count node.spot × (spot_trie node.spot ≡ trie_at p (tree_trie tree))
  root_at is =
      let here : trie_at p (tree_trie tree) ≡ table_trie tree.root = rw is refl in
      let root = ap is_root is in
      let made = root_made node.count node.spot tree.root in
      grind (arith, here, stands.there, stands.root, root, table_entries_trie tree.root, made)

  pub table_at : stands_made (standing (trie_at p (tree_trie tree))) ≡ true
      → IsMade node.count node.spot × (spot_trie node.spot ≡ trie_at p (tree_trie tree))
  table_at made = grind (arith, stands.there, spot_made node.count node.spot)

-- a node that headers made
pub made_at : (sections : List Section) (tree : Tree) (node : Node) (p : Path) → IsResolved sections tree
    → StandsAt tree p node → grammar.is_made (located sections) p ≡ true
    → IsMade node.count node.spot × (spot_trie node.spot ≡ trie_at p (tree_trie tree))
made_at sections tree node [] resolved stands made = root_at tree node [] stands refl
made_at sections tree node (s ∷ p) resolved stands made =
    table_at tree node (s ∷ p) stands (sym (made_in_trie sections (tree_trie tree) resolved.stands (s ∷ p) refl) ∙ made)

module _ (sections : List Section) (node : Node) where
  abbrev pub told : Path → Type 0
  told p = IsMade node.count node.spot
      × (stands_array (standing (spot_trie node.spot)) ≡ grammar.is_array (located sections) p)

  pub is_told : (p : Path) → IsNodeAt sections p node → grammar.is_made (located sections) p ≡ true → told p
  is_told p is made =
      let tree = node.tree.now in
      let there = made_at sections tree node p is.resolved is.stands made in
      (there.0, rw (there.1) (sym (array_in_trie sections (tree_trie tree) is.resolved.stands p)))

last_in : (sections : List Section) → last_of (map head sections) ≡ grammar.last_at sections
last_in [] = refl
last_in (s ∷ []) = refl
last_in (s ∷ t ∷ sections) = last_in (t ∷ sections)

pub last_same : (sections : List Section) (p : Path) (node : Node) → IsNodeAt sections p node
    → last_at node.tree.now ≡ grammar.last_at sections
last_same sections p node is = ap last_of is.resolved.heads ∙ last_in sections

pub made_told : (made : Bool) (node : Node) → made ≡ is_made node → (sections : List Section) (p : Path)
    → IsNodeAt sections p node → grammar.is_made (located sections) p ≡ true → made ≡ true
made_told made node same sections p is there = same ∙ (is_told sections node p is there).0.made
