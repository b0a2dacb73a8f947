-- A node that stands in a tree is foretold by the section list, and as it is: its data stand at its path.
use Rattle.std.proofs.Common.{◌≡◌, ℕ, Bool, true, List, Option, Some, None, inl, inr, ap, sym, ◌∙◌, arith, false}
use Rattle.std.specs.Prelude.{is_some, IfSome, IsSomeAnd}
use Rattle.std.proofs.lemmas.Bool.{false≢true, cases_Bool}
use Rattle.std.proofs.lemmas.Option.{IfSome_then}
use Rattle.basic_toml_grammar.specs.Sections.{Section, KeyTexts}
use Rattle.basic_toml_grammar.specs.Steps.{Path}
use Rattle.basic_toml_grammar.specs.IndexedPath.{located}
use Rattle.basic_toml_grammar.specs.Nodes as grammar
use Rattle.basic_toml_tree.specs.declared.node.Node.{Node}
use Rattle.basic_toml_tree.specs.Origin.{is_made, is_borrowed, name_of, start_of, outer_of, offset_of, keys_of}
use Rattle.basic_toml_tree.specs.Paths.{data_along}
use Rattle.basic_toml_tree.specs.Stands.{IsNodeAt, Foretold, ForetoldSlice}
use Rattle.basic_toml_tree.proofs.Foretold.EveryNode.{foretold_there}
use Rattle.basic_toml_tree.proofs.Nodes.MadeNodes.{is_told, last_same, made_name, told}
use Rattle.basic_toml_tree.proofs.Nodes.KeysTold.{made_keys, row_keys_told}
use Rattle.basic_toml_tree.proofs.Nodes.OuterTold.{row_outer}
use Rattle.basic_toml_tree.proofs.Nodes.PlacesTold.{plain_at, row_place}
use Rattle.basic_toml_tree.proofs.Nodes.RowNodesTold.{row_told, some_both}

-- what is said of a node holds where it holds of what headers made, and of what they did not, by what that tells
foretold : {sections : List Section} {p : Path} {node : Node} {tells : grammar.Node → Type 0}
    (says : grammar.Node → Type 0) (is : IsNodeAt sections p node)
    → (grammar.is_made (located sections) p ≡ true → told sections node p
    → says (grammar.made_node (located sections) (grammar.last_at sections) p))
    → (grammar.is_made (located sections) p ≡ false → IfSome (grammar.node_at sections p) tells)
    → (grammar.is_made (located sections) p ≡ false → (found : grammar.Node) → tells found → says found)
    → IsSomeAnd (grammar.node_at sections p) says
foretold {sections} {p} {node} says is of_header row of_row =
    some (grammar.node_at sections p) there (elim (cases_Bool (grammar.is_made (located sections) p)) [
      | inl made ↦ rw made (of_header made (is_told sections node p is made))
      | inr not ↦ IfSome_then (grammar.node_at sections p) (row not) (of_row not)
    ])
  where
    there : is_some (grammar.node_at sections p) ≡ true
    there = foretold_there sections p is.keyed is.resolved.within is.resolved.clash
        (ap (λ d. is_some (data_along p d)) (sym is.resolved.grown) ∙ ap is_some is.stands.holds)

    some : (o : Option grammar.Node) → is_some o ≡ true → IfSome o says → IsSomeAnd o says
    some None none said = absurd (false≢true none)
    some (Some found) is said = said

pub made_foretold : (made : Bool) (node : Node) → made ≡ is_made node → (sections : List Section) (p : Path)
    → Foretold sections p node (λ _. made ≡ grammar.is_made (located sections) p)
made_foretold made node same sections p is =
    foretold _ is (λ there told. same ∙ told.0.made ∙ sym there) (row_told sections p node is)
    (λ not found told. same ∙ told.made ∙ sym not)

pub name_foretold : (name : List ℕ) (node : Node) → name ≡ name_of node → (sections : List Section) (p : Path)
    → Foretold sections p node (λ found. name ≡ found.type_name)
unfolding name_of
name_foretold name node same sections p is =
    foretold _ is (λ _ told. same ∙ told.0.name ∙ ap made_name told.1) (row_told sections p node is)
    (λ _ found told. same ∙ told.name)

pub slice_foretold : (slice : Bool) (node : Node) → slice ≡ is_borrowed node
    → ForetoldSlice node (λ slice_there. slice ≡ slice_there)
slice_foretold slice node same sections p is =
    foretold _ is (λ _ told. same ∙ told.0.slice) (row_told sections p node is) (λ _ found told. same ∙ told.slice)

pub start_foretold : (start : Option ℕ) (node : Node) → start ≡ start_of node → (sections : List Section) (p : Path)
    → Foretold sections p node (λ found. start ≡ found.start)
unfolding start_of
start_foretold start node same sections p is =
    foretold _ is (λ _ told. same ∙ rw (told.0.made) (last_same sections p node is)) (row_told sections p node is)
    (λ _ found told. same ∙ rw (told.made) told.start)

pub place_foretold : (place : Option ℕ) (node : Node) → place ≡ offset_of node → (sections : List Section) (p : Path)
    → Foretold sections p node (λ found. place ≡ found.offset)
unfolding offset_of start_of outer_of
place_foretold place node same sections p is =
    foretold _ is (λ _ told. same ∙ rw (told.0.made) (grind (arith, last_same sections p node is)))
    (λ not. some_both (grammar.node_at sections p) (row_outer sections p node is not) (plain_at sections p not)
    (λ found told plain. same ∙ row_place node found told.0 told.1 plain)) (λ _ found says. says)

pub outer_foretold : (outer : Option ℕ) (node : Node) → outer ≡ outer_of node → (sections : List Section) (p : Path)
    → Foretold sections p node (λ found. outer ≡ found.outer_offset)
unfolding outer_of
outer_foretold outer node same sections p is =
    foretold _ is (λ _ told. same ∙ rw (told.0.made) (last_same sections p node is)) (row_outer sections p node is)
    (λ _ found told. same ∙ rw (told.0.made) told.1)

pub keys_foretold : (keys : KeyTexts) (node : Node) → keys ≡ keys_of node → (sections : List Section) (p : Path)
    → Foretold sections p node (λ found. keys ≡ found.key_path)
keys_foretold keys node same sections p is =
    foretold _ is (λ made _. same ∙ made_keys sections p node is made) (row_keys_told sections node p is)
    (λ _ found told. same ∙ told)
