-- Wherever the document of a section list has data, a node is foretold: what headers made by its path, and what rows
-- brought since it comes from somewhere.
use Rattle.std.proofs.Common.{◌≡◌, true, false, not, List, [], ◌∷◌, Option, Some, None, inl, inr, refl, ap, arith}
use Rattle.std.proofs.Common.{◌∙◌, subst}
use Rattle.std.specs.Prelude.{is_some}
use Rattle.std.proofs.lemmas.Bool.{false≢true, or_parts, cases_Bool}
use Rattle.basic_toml_grammar.specs.Sections.{Section}
use Rattle.basic_toml_grammar.specs.Steps.{Path}
use Rattle.basic_toml_grammar.specs.IndexedPath.{Located, located}
use Rattle.basic_toml_grammar.specs.RowClash.{rows_clash}
use Rattle.basic_toml_grammar.specs.Growth.{nothing_grown, grow_all}
use Rattle.basic_toml_grammar.specs.Mentions.{mentions}
use Rattle.basic_toml_grammar.specs.Document.{has_clash, tree_of_sections}
use Rattle.basic_toml_grammar.specs.Entering.{all_keyed, all_keyed_within}
use Rattle.basic_toml_grammar.specs.Trie.{Trie, nothing, put_sections}
use Rattle.basic_toml_grammar.specs.Nodes.{is_made, last_at, node_at}
use Rattle.basic_toml_grammar.proofs.Tries.SectionsInATrie.{sections_put, sections_grown}
use Rattle.basic_toml_grammar.proofs.Tries.NumbersInTurn.{numbers_in_turn}
use Rattle.basic_toml_grammar.proofs.Nesting.LevelsAreWithinDepth.{list_keys}
use Rattle.basic_toml_grammar.proofs.SameMeaning.OldDocumentsStand.{list_keyed}
use Rattle.basic_toml_tree.specs.Paths.{data_along}
use Rattle.basic_toml_tree.specs.Statements.{EveryNodeIsForetold, EveryNodeOfAListIsForetold}
use Rattle.basic_toml_tree.proofs.Origins.RowsAreNodes.{sections_same}
use Rattle.basic_toml_tree.proofs.Nodes.RowNodesTold.{located_any, located_keyed}
use Rattle.basic_toml_tree.proofs.Foretold.PathsReached.{InTurn, bare_in_turn, tree_leads, sections_found}

-- the elements of a list without clashes stand in the order of their numbers
in_turn : (sections : List Section) → all_keyed sections ≡ true → has_clash sections ≡ false
    → InTurn (grow_all nothing_grown (mentions (located sections)))
in_turn sections keyed free = go (put_sections sections nothing) refl (sections_put sections keyed ∙ ap not free)
  where
    go : (o : Option Trie) → put_sections sections nothing ≡ o → is_some o ≡ true
        → InTurn (grow_all nothing_grown (mentions (located sections)))
    go None is e = absurd (false≢true e)
    go (Some t) is e = subst InTurn (sections_grown sections t is) (bare_in_turn t (numbers_in_turn sections t is))

pub foretold_there : (sections : List Section) (p : Path) → all_keyed sections ≡ true
    → all_keyed_within sections ≡ true → has_clash sections ≡ false
    → is_some (data_along p (tree_of_sections sections)) ≡ true → is_some (node_at sections p) ≡ true
foretold_there sections [] keyed within free e = refl
foretold_there sections (s ∷ p) keyed within free e = elim (cases_Bool (is_made ls (s ∷ p))) [
  | inl made ↦ rw made refl
  | inr not ↦
      let apart = located_any (λ s. rows_clash s.rows) [] sections ∙ (or_parts _ _ free).0 in
      let same = sections_same ls (last_at sections) 0 ls (s ∷ p) not apart (located_keyed [] sections ∙ within) in
      let found = sections_found 0 ls (s ∷ p) not (tree_leads (mentions ls) s p (in_turn sections keyed free) e) in
      rw not (grind (arith, same, found))
]
  where
    ls : List Located
    ls = located sections

pub every_node_of_a_list : EveryNodeOfAListIsForetold
every_node_of_a_list sections tree p keyed within means there =
    let same : tree_of_sections sections ≡ tree = grind arith in
    foretold_there sections p keyed within (grind arith) (rw same there)

pub every_node : EveryNodeIsForetold
every_node text sections tree p grammar means there =
    every_node_of_a_list sections tree p (list_keyed grammar) (list_keys grammar) means there
