-- What is answered to a list holds of it in each other order.
use Rattle.std.proofs.Common.{◌≡◌, inl, inr, ◌<◌, ◌≤◌, true, false, List, map, refl, sym, ◌∙◌, arith, Result, Ok, Err}
use Rattle.std.proofs.lemmas.Bool.{cases_Bool, le-leb}
use Rattle.basic_toml_value.specs.Nesting.{nesting_limit}
use Rattle.basic_toml_grammar.specs.Sections.{Section}
use Rattle.basic_toml_grammar.specs.Depth.{depth}
use Rattle.basic_toml_grammar.specs.Document.{has_clash, tree_of_sections}
use Rattle.basic_toml_grammar.specs.Entering.{all_keyed, all_keyed_within}
use Rattle.basic_toml_grammar.specs.Faults.{Fault}
use Rattle.basic_toml_grammar.specs.Statements.{MeanTheSame}
use Rattle.basic_toml_grammar.proofs.Nesting.DepthIsTheHighestLevel.{deep_where_one_is}
use Rattle.basic_toml_grammar.proofs.Naming.EveryClashIsNamed.{named_clashes}
use Rattle.basic_toml_grammar.proofs.SameMeaning.ReorderedMeanTheSame.{reordered_means_the_same, same_maps_are_as_deep}
use Rattle.basic_toml_grammar.proofs.SameMeaning.ReorderedMeanTheSame.{plain_reordered_means_the_same}
use Rattle.basic_toml_read.specs.declared.section.Section as code
use Rattle.basic_toml_read.specs.SectionView.{section_of}
use Rattle.basic_toml_tree.specs.declared.tree.Tree.{Tree}
use Rattle.basic_toml_tree.specs.Order.{IsReordering, IsRefusedToo, IsAnswerToo, ResolvesInAnyOrder}
use Rattle.basic_toml_tree.specs.Resolve.{Resolves, IsResolved, IsUnresolved, memory, refused}
use Rattle.basic_toml_tree.proofs.SectionsStopped.{fault_is_named}
use Rattle.basic_toml_read.proofs.RowsHaveKeys.{sections_have_keys}

-- sections, with keys and without, that mean the same as others
module _ (sections others : List Section) (same : MeanTheSame sections others) where
  tree_too : (tree : Tree) → IsResolved sections tree → IsAnswerToo sections (Ok tree) others
  tree_too tree is =
      let maps = same.maps is.clash in
      let fits : depth (tree_of_sections others) ≤ nesting_limit = rw (same_maps_are_as_deep _ _ maps) at is.fits in
      rw (← same.clash, is.clash, le-leb (depth (tree_of_sections others)) nesting_limit fits, is.grown) maps

  -- they are refused too, where these clash or are too deep
  refused_too : (fault : Fault) → (has_clash sections ≡ false → nesting_limit < depth (tree_of_sections sections))
      → IsRefusedToo sections fault others
  refused_too fault over = record {
    none = elim (cases_Bool (has_clash sections)) [
      | inl met ↦ rw (← same.clash, met) refl
      | inr peace ↦ grind (arith, rw (same_maps_are_as_deep _ _ (same.maps peace)) at (over peace))
    ];
    clash = λ names. sym same.clash ∙ named_clashes sections fault names;
  }

  none_too : all_keyed sections ≡ true → all_keyed_within sections ≡ true → (fault : Fault)
      → IsUnresolved sections fault → IsAnswerToo sections (Err fault) others
  none_too keyed within _ (memory listed) = inl refl
  none_too keyed within fault (refused why) = inr (elim (fault_is_named sections fault keyed why) [
    | inl names ↦ refused_too fault (λ peace. absurd (cc (named_clashes sections fault names)))
    | inr d ↦ refused_too fault (λ peace. deep_where_one_is nesting_limit d.0 sections keyed within peace d.2)
  ])

mean_the_same : (sections others : List Section) → all_keyed sections ≡ true → IsReordering sections others
    → MeanTheSame sections others
mean_the_same sections others keyed (inl paths) = reordered_means_the_same sections others keyed paths
mean_the_same sections others keyed (inr plain) = plain_reordered_means_the_same sections others keyed plain.0 plain.1

pub in_any_order : (list : List code.Section) (result : Result Tree Fault) → Resolves list result
    → ResolvesInAnyOrder list result
in_any_order list (Ok tree) is keyed others order =
    tree_too (map section_of list) others (mean_the_same (map section_of list) others keyed order) tree (is keyed)
in_any_order list (Err fault) is keyed others order =
    none_too (map section_of list) others (mean_the_same (map section_of list) others keyed order) keyed
    (sections_have_keys list) fault (is keyed)
