-- The origin of a node is that of the path where it stands.
use Rattle.std.proofs.Common.{◌≡◌, ℕ, List, Option, Some, None, ap, ◌∙◌}
use Rattle.basic_toml_tokens.specs.Text.{folded}
use Rattle.basic_toml_grammar.specs.Grammar.{IsSectionList}
use Rattle.basic_toml_grammar.specs.Sections.{Section}
use Rattle.basic_toml_grammar.specs.Steps.{Path}
use Rattle.basic_toml_grammar.proofs.LawsHold.{unambiguous}
use Rattle.basic_toml_origin.specs.Anchor.{IsAnchorOf, path_of_anchor}
use Rattle.basic_toml_origin.specs.Origin.{origin_at}
use Rattle.basic_toml_origin.specs.declared.anchor.Anchor.{Anchor}
use Rattle.basic_toml_origin.specs.declared.origin.Origin.{Origin}
use Rattle.basic_toml_origin.proofs.AnchorsLead.{lead}

module _ (text : List ℕ) (list sections : List Section) (p : Path) (anchor : Anchor)
    (here : IsSectionList (folded text) list) (there : IsSectionList (folded text) sections)
    (is : IsAnchorOf sections p anchor) where
  same_list : list ≡ sections
  same_list = unambiguous _ (folded text) list sections here there

  path_is : path_of_anchor list anchor ≡ Some p
  path_is = ap (λ ss. path_of_anchor ss anchor) same_list ∙ lead text sections there p anchor is

  pub origin_found : (path : Path) (origin : Option Origin) → Some path ≡ path_of_anchor list anchor
      → origin ≡ origin_at list path → origin ≡ origin_at sections p
  origin_found path origin found same =
      let both : Some path ≡ Some p = found ∙ path_is in
      let reached : path ≡ p = cc in
      same ∙ ap (λ ss. origin_at ss path) same_list ∙ ap (origin_at sections) reached

  pub always_found : None ≡ path_of_anchor list anchor → ⊥
  always_found none = let both : None ≡ Some p = none ∙ path_is in cc
