-- Where reading stops: at a hole, and what does not stand there.
use Rattle.std.specs.Prelude.{◌≡◌, ℕ, Bool, true, false, List, [], None}
use Rattle.basic_toml_tokens.specs.Ascii as ascii
use Rattle.basic_toml_tokens.specs.Text.{Text, text_at, run}
use Rattle.basic_toml_grammar.specs.Grammar.{is_wordlike}
use Rattle.basic_toml_grammar.specs.Holes.{Hole, Fits, HoleInText, behind_in_text}
use Rattle.basic_toml_grammar.specs.Reader.{char_at, key_at, string_at, word_at, end_of}
use Rattle.basic_toml_explain.specs.declared.stop.End.{End}
use Rattle.basic_toml_explain.specs.declared.stop.End.TheVariants as ends
use Rattle.basic_toml_explain.specs.declared.stop.Why.{Why}
use Rattle.basic_toml_explain.specs.declared.stop.Why.TheVariants.{Memory, Deep, Key, Equals, Bracket, Comma, Newline}
use Rattle.basic_toml_explain.specs.declared.stop.Why.TheVariants.{Value, Word}

-- no value begins there
abbrev pub NoValue : Text → Type 0
NoValue text = (run is_wordlike text ≡ []) × (string_at text ≡ None) × (char_at ascii.left_bracket text ≡ None)
    × (char_at ascii.left_brace text ≡ None)

-- what has to come behind a value, by what is wanted after it
abbrev pub hole_behind : End → Hole
hole_behind ends.Newline = Hole.after_line
hole_behind ends.Bracket = Hole.after_element
hole_behind ends.Comma = Hole.after_field

-- a right bracket may stand there
abbrev pub takes_bracket : Hole → Bool
takes_bracket Hole.after_header_keys = true
takes_bracket Hole.second_bracket = true
takes_bracket Hole.after_element = true
takes_bracket _ = false

-- Of a reading with holes, where `behind` says what has to come behind the value of a hole: for this reason it stops at
-- such a text.
module _ (HoleIn : Hole → Text → Type 0) (behind : (at : Text) → HoleIn Hole.value at → Hole) where
  -- in a hole in which nothing that fits stands
  pub record MissesSign (h : Hole) (at : Text) : Type 0 where
    pub hole : HoleIn h at
    pub missing : Fits h at → ⊥

  pub record MissesBracket (at : Text) : Type 0 where
    pub wanted : Hole
    pub takes : takes_bracket wanted ≡ true
    pub misses : MissesSign wanted at

  -- a word that is no value
  pub record MissesWord (end : End) (at : Text) : Type 0 where
    pub hole : HoleIn Hole.value at
    pub behind_it : behind at hole ≡ hole_behind end
    pub none : word_at at ≡ None
    pub some : run is_wordlike at ≡ [] → ⊥

  abbrev pub StopsFor : Why → Text → Type 0
  StopsFor Memory at = Unit {0}
  StopsFor Deep at = Unit {0}
  StopsFor Key at = HoleIn Hole.key at × (key_at at ≡ None)
  StopsFor Equals at = MissesSign Hole.after_keys at
  StopsFor Bracket at = MissesBracket at
  StopsFor Comma at = MissesSign Hole.after_field at
  StopsFor Newline at = HoleIn Hole.after_line at × (end_of at ≡ None)
  StopsFor Value at = HoleIn Hole.value at × NoValue at
  StopsFor (Word end) at = MissesWord end at

-- in a text
abbrev pub StopsInText : Text → List ℕ → Why → ℕ → Type 0
StopsInText start bytes why at = StopsFor (HoleInText start) (λ at d. behind_in_text d) why (text_at bytes at)
