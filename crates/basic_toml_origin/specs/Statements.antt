-- The laws of anchors. Each is proved as the contract of a function in `laws`.
use Rattle.std.specs.Prelude.{◌≡◌, ℕ, true, List, Some}
use Rattle.basic_toml_tokens.specs.Text.{folded}
use Rattle.basic_toml_grammar.specs.Sections.{Section}
use Rattle.basic_toml_grammar.specs.Steps.{Path}
use Rattle.basic_toml_grammar.specs.IndexedPath.{located}
use Rattle.basic_toml_grammar.specs.Nodes.{is_made}
use Rattle.basic_toml_grammar.specs.Grammar.{IsSectionList}
use Rattle.basic_toml_origin.specs.declared.anchor.Anchor.{Anchor}
use Rattle.basic_toml_origin.specs.Anchor.{path_of_anchor, IsAnchorOf}

-- In the section list of a text, an anchor of what is at a path leads to this path.
abbrev pub AnchorsLeadToPaths : Type 0
AnchorsLeadToPaths =
    (text : List ℕ) (sections : List Section) → IsSectionList (folded text) sections → (p : Path) (anchor : Anchor)
    → IsAnchorOf sections p anchor → path_of_anchor sections anchor ≡ Some p

-- In every section list, an anchor of what headers made leads to its path.
abbrev pub MadeAnchorsLeadToPaths : Type 0
MadeAnchorsLeadToPaths =
    (sections : List Section) (p : Path) (anchor : Anchor) → is_made (located sections) p ≡ true
    → IsAnchorOf sections p anchor → path_of_anchor sections anchor ≡ Some p
