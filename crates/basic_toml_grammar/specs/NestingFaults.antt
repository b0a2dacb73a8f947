-- Where `NestedTooDeeply` stands, own. In a text: at the first key or bracket above the limit, where the level of a
-- key or a bracket is that in some text of the grammar that has the same bytes up to there, and there the same
-- character. In a section list: at a section with a key or a bracket above the limit in the tree, where the numbers of
-- array elements count too.
use Rattle.std.specs.Prelude.{◌≡◌, ℕ, suc, max, ◌==◌, ◌||◌, nat_lt, Bool, if◌then◌else◌, List, [], ◌∷◌, length}
use Rattle.std.specs.Prelude.{Option, Some, None}
use Rattle.std.specs.Str.{IsUtf8}
use Rattle.basic_toml_tokens.specs.Ascii as ascii
use Rattle.basic_toml_tokens.specs.Text.{Text, folded}
use Rattle.basic_toml_grammar.specs.Sections.{Section}
use Rattle.basic_toml_grammar.specs.IndexedPath.{Located}
use Rattle.basic_toml_grammar.specs.Grammar.{IsSectionList}
use Rattle.basic_toml_grammar.specs.Levels.{rows_level, deep_offsets}

-- the texts are the same up to an offset, which stands in both
pub data AgreeTo (p : ℕ) : Text → Text → Type 0 where
  here : {c : ℕ} {text other : Text} → AgreeTo p ((p, c) ∷ text) ((p, c) ∷ other)
  further : {x : ℕ × ℕ} {text other : Text} → AgreeTo p text other → AgreeTo p (x ∷ text) (x ∷ other)

-- the first of some offsets
abbrev pub first_offset : List ℕ → Option ℕ
first_offset [] = None
first_offset (p ∷ offsets) = Some p

pub record IsTooDeepAt (limit : ℕ) (text : Text) (p : ℕ) : Type 0 where
  pub bytes : List ℕ
  pub utf8 : IsUtf8 bytes
  pub sections : List Section
  pub agree : AgreeTo p text (folded bytes)
  pub grammar : IsSectionList (folded bytes) sections
  pub first : first_offset (deep_offsets limit sections) ≡ Some p

-- Only these characters lead a level deeper: `[`, `{`, `.` and `=`. So a key or a bracket above the limit stands after
-- as many of them as the limit at least (law `deep_offsets_are_opened`).
abbrev pub leads_deeper : ℕ → Bool
leads_deeper c = (c == ascii.left_bracket || c == ascii.left_brace) || (c == ascii.period || c == ascii.equals)

abbrev pub openers : Text → ℕ
openers [] = 0
openers (x ∷ text) = if leads_deeper x.1 then suc (openers text) else openers text

-- the characters before an offset
abbrev pub before : ℕ → Text → Text
before p [] = []
before p (x ∷ text) = if x.0 == p then [] else x ∷ before p text

-- The highest level of a section in the tree, where each step of its path counts one, numbers too.
abbrev pub tree_level : Located → ℕ
tree_level l =
    let level = suc (length l.path) in
    max level (rows_level level l.section.rows)

-- and the highest of several
abbrev pub highest_tree_level : List Located → ℕ
highest_tree_level [] = 0
highest_tree_level (l ∷ ls) = max (tree_level l) (highest_tree_level ls)

-- the offsets of sections that make the tree too deep
abbrev pub deep_sections : ℕ → List Located → List ℕ
deep_sections limit [] = []
deep_sections limit (l ∷ ls) =
    if nat_lt limit (tree_level l) then l.section.at ∷ deep_sections limit ls else deep_sections limit ls
