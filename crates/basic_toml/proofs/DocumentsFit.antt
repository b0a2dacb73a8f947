-- A document is no deeper than the nesting limit.
use Rattle.std.proofs.Common.{◌≡◌, ◌≤◌, Bool, true, false, List, Option, Some, None, refl, subst}
use Rattle.std.proofs.lemmas.Bool.{leb-true}
use Rattle.std.specs.Prelude.{nat_le, not, ◌||◌, if◌then◌else◌}
use Rattle.basic_toml_tokens.specs.Text.{Text}
use Rattle.basic_toml_value.specs.Data.{Data}
use Rattle.basic_toml_value.specs.Nesting.{nesting_limit}
use Rattle.basic_toml_grammar.specs.Depth.{depth}
use Rattle.basic_toml_grammar.specs.Document.{has_clash, tree_of_sections, document_of, IsDocument}
use Rattle.basic_toml_grammar.specs.Sections.{Section}

sections_fit : (sections : List Section) (tree : Data) → document_of sections ≡ Some tree → depth tree ≤ nesting_limit
sections_fit sections tree e =
    go (has_clash sections) (nat_le (depth (tree_of_sections sections)) nesting_limit) refl e
  where
    go : (b c : Bool) → nat_le (depth (tree_of_sections sections)) nesting_limit ≡ c
        → ◌≡◌ {A = Option Data} (if b || not c then None else Some (tree_of_sections sections)) (Some tree)
        → depth tree ≤ nesting_limit
    go true c g e = cc
    go false false g e = cc
    go false true g e =
        let same : tree_of_sections sections ≡ tree = cc in
        subst (λ (d : Data). depth d ≤ nesting_limit) same
        (leb-true (depth (tree_of_sections sections)) nesting_limit g)

pub document_fits : (text : Text) (tree : Data) → IsDocument text tree → depth tree ≤ nesting_limit
document_fits text tree document = sections_fit document.sections tree document.means
