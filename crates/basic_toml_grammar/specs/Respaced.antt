-- Texts that differ in blanks, comments and empty lines alone: those that have the same tokens.
-- A string is one token, by what it stands for and whether it is multiline. So is a word, the longest run of the
-- characters of bare keys, numbers and periods. In a line that begins with a bracket, so are brackets of one kind, one
-- after another. Every other character is a token of its own. Blanks and comments before a token are left out. Line
-- feeds one after another are one token, and none stands at the start or at the end.
use Rattle.std.specs.Prelude.{◌≡◌, ℕ, Bool, true, false, not, ◌&&◌, ◌||◌, ◌==◌, List, [], ◌∷◌}
use Rattle.basic_toml_tokens.specs.Ascii as ascii
use Rattle.basic_toml_tokens.specs.Text.{Text, StartsWith, run, after_run, is_comment, after_blanks}
use Rattle.basic_toml_tokens.specs.Strings.{is_quote, IsString}
use Rattle.basic_toml_grammar.specs.Grammar.{is_wordlike, after_comment_by, after_gap}

pub data Token : Type 0 where
  newline : Token
  characters : List ℕ → Token
  quoted : (multiline : Bool) (value : List ℕ) → Token

-- after blanks and a comment
abbrev pub after_spaces : Text → Text
after_spaces text = after_comment_by is_comment (after_blanks text)

-- at the first token of a text or of a line
abbrev pub at_token : Text → Text
at_token text = after_gap is_comment text

abbrev pub is_bracket : ℕ → Bool
is_bracket c = c == ascii.left_bracket || c == ascii.right_bracket

-- d belongs to the token that c begins; `bracketed` says that the line begins with a bracket
abbrev pub joins : Bool → ℕ → ℕ → Bool
joins bracketed c d = (is_wordlike c && is_wordlike d) || ((is_bracket c && d == c) && bracketed)

abbrev pub is_sign : ℕ → Bool
is_sign c = not (c == ascii.line_feed || is_quote c)

abbrev pub begins_with_bracket : Text → Bool
begins_with_bracket [] = false
begins_with_bracket (x ∷ text) = x.1 == ascii.left_bracket

pub data HasTokens : (bracketed : Bool) → Text → List Token → Type 0 where
  no_more : {b : Bool} {text : Text} → at_token text ≡ [] → HasTokens b text []
  feeds : {b : Bool} {p : ℕ} {text next : Text} {token : Token} {tokens : List Token}
      → StartsWith ascii.line_feed (after_spaces text) p next
      → HasTokens (begins_with_bracket (at_token next)) (at_token next) (token ∷ tokens)
      → HasTokens b text (newline ∷ token ∷ tokens)
  signs : {b : Bool} {p c : ℕ} {joined : List ℕ} {text next : Text} {tokens : List Token}
      → StartsWith c (after_spaces text) p next → is_sign c ≡ true → run (joins b c) next ≡ joined
      → HasTokens b (after_run (joins b c) next) tokens → HasTokens b text (characters (c ∷ joined) ∷ tokens)
  string : {b : Bool} {p : ℕ} {m : Bool} {value : List ℕ} {text rest : Text} {tokens : List Token}
      → IsString (after_spaces text) p m value rest → HasTokens b rest tokens
      → HasTokens b text (quoted m value ∷ tokens)

-- the tokens of a text, from its start on
abbrev pub AreTokens : Text → List Token → Type 0
AreTokens text tokens = HasTokens (begins_with_bracket (at_token text)) (at_token text) tokens

pub record Respaced (text other : Text) : Type 0 where
  pub tokens : List Token
  pub its : AreTokens text tokens
  pub others : AreTokens other tokens
