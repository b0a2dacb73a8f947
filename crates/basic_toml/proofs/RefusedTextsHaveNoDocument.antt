-- A text that has a document is due no error: it has a section list, in which nothing clashes, and its tree fits.
use Rattle.std.proofs.Common.{◌≡◌, inl, inr, ℕ, ◌<◌, ◌≤◌, Bool, true, false, List, Option, Some, None, refl, subst, arith, sym, ◌∙◌}
use Rattle.std.specs.Prelude.{nat_le, not, ◌||◌, if◌then◌else◌}
use Rattle.std.proofs.lemmas.Bool.{leb-true, false≢true}
use Rattle.basic_toml_tokens.specs.Text.{folded}
use Rattle.basic_toml_value.specs.Data.{Data}
use Rattle.basic_toml_value.specs.Nesting.{nesting_limit}
use Rattle.basic_toml_grammar.specs.Sections.{Section}
use Rattle.basic_toml_grammar.specs.Depth.{depth}
use Rattle.basic_toml_grammar.specs.Levels.{highest_level}
use Rattle.basic_toml_grammar.specs.Document.{has_clash, tree_of_sections, document_of, IsDocument}
use Rattle.basic_toml_grammar.specs.Entering.{all_keyed}
use Rattle.basic_toml_grammar.specs.Faults as read
use Rattle.basic_toml_grammar.proofs.LawsHold.{unambiguous, within, keyed}
use Rattle.basic_toml_grammar.proofs.Naming.EveryClashIsNamed.{named_clashes}
use Rattle.basic_toml_grammar.proofs.Nesting.LevelsAreWithinDepth.{list_keys}
use Rattle.basic_toml_grammar.proofs.Nesting.DepthIsTheHighestLevel.{deep_where_one_is}
use Rattle.basic_toml_tree.specs.FirstStop.{SectionsFault}
use Rattle.basic_toml_tree.proofs.SectionsStopped.{fault_is_named}
use Rattle.basic_toml.specs.Reading.{IsTextFault, outside, deep, no_tree}

-- in the list of a document nothing clashes, and its tree fits
peaceful_and_fits : (sections : List Section) (tree : Data) → document_of sections ≡ Some tree
    → (has_clash sections ≡ false) × (depth (tree_of_sections sections) ≤ nesting_limit)
peaceful_and_fits sections tree e =
    go (has_clash sections) (nat_le (depth (tree_of_sections sections)) nesting_limit) refl refl e
  where
    go : (b c : Bool) → has_clash sections ≡ b → nat_le (depth (tree_of_sections sections)) nesting_limit ≡ c
        → ◌≡◌ {A = Option Data} (if b || not c then None else Some (tree_of_sections sections)) (Some tree)
        → (has_clash sections ≡ false) × (depth (tree_of_sections sections) ≤ nesting_limit)
    go true c f g e = cc
    go false false f g e = cc
    go false true f g e = (f, leb-true (depth (tree_of_sections sections)) nesting_limit g)

pub refused_has_no_document : (text : List ℕ) (error : read.Fault) (tree : Data) → IsTextFault text error
    → IsDocument (folded text) tree → ⊥
refused_has_no_document text error tree (outside due within_limit) d = due.outside d.sections d.grammar
refused_has_no_document text _ tree (deep nested) d =
    let (peaceful, fits) = peaceful_and_fits d.sections tree d.means in
    let over : nesting_limit < highest_level d.sections = nested.passes d.sections d.grammar in
    let below : highest_level d.sections ≤ depth (tree_of_sections d.sections) =
    within (folded text) d.sections d.grammar peaceful in
    absurd (omega arith)
refused_has_no_document text error tree (no_tree {sections = sections} grammar low why) d =
    let (peaceful, fits) = peaceful_and_fits d.sections tree d.means in
    let same : sections ≡ d.sections = unambiguous _ (folded text) sections d.sections grammar d.grammar in
    let here : SectionsFault d.sections error = subst (λ (ss : List Section). SectionsFault ss error) same why in
    let keys : all_keyed d.sections ≡ true = keyed (folded text) d.sections d.grammar in
    elim (fault_is_named d.sections error keys here) [
      | inl names ↦ absurd (false≢true (sym peaceful ∙ named_clashes d.sections error names))
      | inr nested ↦
          let over : nesting_limit < depth (tree_of_sections d.sections) =
          deep_where_one_is nesting_limit nested.0 d.sections keys (list_keys d.grammar) peaceful nested.2 in
          absurd (omega arith)
    ]
