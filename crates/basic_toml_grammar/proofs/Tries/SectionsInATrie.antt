-- Sections go into an empty trie exactly where nothing clashes, and the values there are the tree of the sections.
use Rattle.std.proofs.Common.{◌≡◌, List, [], Option, Some, None, refl, ap, sym, ◌∙◌, true}
use Rattle.std.specs.Prelude.{◌||◌, not, is_some, option_map}
use Rattle.basic_toml_grammar.specs.Sections.{Section}
use Rattle.basic_toml_grammar.specs.RowClash.{has_row_clash}
use Rattle.basic_toml_grammar.specs.Growth.{nothing_grown, grow_all, closed}
use Rattle.basic_toml_grammar.specs.IndexedPath.{located}
use Rattle.basic_toml_grammar.specs.Mentions.{mentions}
use Rattle.basic_toml_grammar.specs.Document.{has_clash, tree_of_sections}
use Rattle.basic_toml_grammar.specs.Marks.{Mark}
use Rattle.basic_toml_grammar.specs.Standing.{growth_of}
use Rattle.basic_toml_grammar.specs.Entering.{enter_all, all_keyed}
use Rattle.basic_toml_grammar.specs.Trie.{Trie, nothing, put_sections, bare}
use Rattle.basic_toml_grammar.proofs.Clash.ClashesAgree.{clashes_agree}
use Rattle.basic_toml_grammar.proofs.Clash.EnteringAccepts.{accepts}
use Rattle.basic_toml_grammar.proofs.Trees.EnteringGrows.{growth_entered, tree_entered}
use Rattle.basic_toml_grammar.proofs.Tries.MarksInATrie.{trie_of, bare_of}
use Rattle.basic_toml_grammar.proofs.Tries.TrieIsEntering.{trie_is_entering}

pub sections_put : (sections : List Section) → all_keyed sections ≡ true
    → is_some (put_sections sections nothing) ≡ not (has_clash sections)
sections_put sections k = ap is_some (trie_is_entering sections) ∙ mapped (enter_all sections [])
    ∙ accepts sections k ∙ ap (λ b. not (has_row_clash sections || b)) (sym (clashes_agree sections k))
  where
    mapped : (o : Option (List Mark)) → is_some (option_map trie_of o) ≡ is_some o
    mapped None = refl
    mapped (Some st) = refl

-- a trie that sections went into is that of the marks that they leave
pub marks_put : (sections : List Section) (t : Trie) → put_sections sections nothing ≡ Some t
    → (st : List Mark) × (enter_all sections [] ≡ Some st) × (t ≡ trie_of st)
marks_put sections t e = go (enter_all sections []) refl (sym (trie_is_entering sections) ∙ e)
  where
    go : (o : Option (List Mark)) → enter_all sections [] ≡ o → option_map trie_of o ≡ Some t
        → (st : List Mark) × (enter_all sections [] ≡ Some st) × (t ≡ trie_of st)
    go None h e = cc
    go (Some st) h e = (st, h, cc)

pub sections_data : (sections : List Section) (t : Trie) → put_sections sections nothing ≡ Some t
    → closed (bare t) ≡ tree_of_sections sections
sections_data sections t e =
    let r : (st : List Mark) × (enter_all sections [] ≡ Some st) × (t ≡ trie_of st) = marks_put sections t e in
    ap (λ t. closed (bare t)) r.2 ∙ ap closed (bare_of r.0) ∙ tree_entered sections r.0 r.1

pub sections_grown : (sections : List Section) (t : Trie) → put_sections sections nothing ≡ Some t
    → bare t ≡ grow_all nothing_grown (mentions (located sections))
sections_grown sections t e =
    let r : (st : List Mark) × (enter_all sections [] ≡ Some st) × (t ≡ trie_of st) = marks_put sections t e in
    ap bare r.2 ∙ bare_of r.0 ∙ growth_entered sections r.0 r.1

-- the values of the trie are the tree that the marks make
pub bare_is_growth : (sections : List Section)
    → option_map bare (put_sections sections nothing) ≡ option_map growth_of (enter_all sections [])
bare_is_growth sections = ap (λ o. option_map bare o) (trie_is_entering sections) ∙ go (enter_all sections [])
  where
    go : (o : Option (List Mark)) → option_map bare (option_map trie_of o) ≡ option_map growth_of o
    go None = refl
    go (Some st) = ap (λ g. Some g) (bare_of st)
