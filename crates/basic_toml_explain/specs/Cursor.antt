-- What a cursor takes at its offset, and how it is stopped there.
use Rattle.std.specs.Prelude.{◌⊎◌, ◌≡◌, ℕ, ◌+◌, Bool, true, false, List, [], ◌∷◌, length, Option, Some, None, Result}
use Rattle.std.specs.Prelude.{Ok, Err}
use Rattle.std.specs.Borrow.{Bor}
use Rattle.std.specs.Str.{IsCharBoundary}
use Rattle.basic_toml_tokens.specs.Ascii as ascii
use Rattle.basic_toml_tokens.specs.declared.span.Span.{Span}
use Rattle.basic_toml_tokens.specs.declared.token.Token.{Token}
use Rattle.basic_toml_tokens.specs.Text.{Text, text_at, run, after_run, is_keylike}
use Rattle.basic_toml_tokens.specs.TokenAt.{Lexeme, newline, equals, period, comma, colon, plus, left_brace}
use Rattle.basic_toml_tokens.specs.TokenAt.{right_brace, left_bracket, right_bracket, keylike, IsToken}
use Rattle.basic_toml_tokens.specs.Tokenizer.{Takes}
use Rattle.basic_toml_tokens.specs.Reading.{Reading, text_of}
use Rattle.basic_toml_grammar.specs.Faults.{Fault}
use Rattle.basic_toml_explain.specs.Error.{want_of_memory}
use Rattle.basic_toml_grammar.specs.Reader.{char_at}
use Rattle.basic_toml_grammar.specs.Viable.{RefusesToken}

-- no token stands there, for this fault; or memory was refused
abbrev pub IsStopped : Text → Fault → Type 0
IsStopped text fault = (fault ≡ want_of_memory) ⊎ RefusesToken text fault

-- a token stands there, or the text is over
abbrev pub Accepts : Text → Type 0
Accepts text = (fault : Fault) → RefusesToken text fault → ⊥

-- the token at the offset, or the end
abbrev pub TakesToken : Reading → Reading → Result (Option (Span × Token)) Fault → Type 0
TakesToken old new (Ok (Some pair)) = Takes old new pair.0 pair.1
TakesToken old new (Ok None) = (text_of old ≡ []) × (new ≡ old)
TakesToken old new (Err fault) = IsStopped (text_of old) fault

-- the text of a word, or none for another token
abbrev pub IsWordOf : Lexeme → Option (Bor (List ℕ)) → Type 0
IsWordOf l (Some word) = l ≡ keylike word.now
IsWordOf l None = (word : List ℕ) → l ≡ keylike word → ⊥

-- a token of characters of words
abbrev pub is_word_token : Lexeme → Bool
is_word_token (keylike _) = true
is_word_token period = true
is_word_token plus = true
is_word_token _ = false

-- the character of a token of one character
abbrev pub code_of : Lexeme → ℕ
code_of newline = ascii.line_feed
code_of equals = ascii.equals
code_of period = ascii.period
code_of comma = ascii.comma
code_of colon = ascii.colon
code_of plus = ascii.plus
code_of left_brace = ascii.left_brace
code_of right_brace = ascii.right_brace
code_of left_bracket = ascii.left_bracket
code_of right_bracket = ascii.right_bracket
code_of _ = 0

-- this character, if it stands there
abbrev pub EatsPunctuation : ℕ → Reading → Reading → Result Bool Fault → Type 0
EatsPunctuation c old new (Ok true) = (char_at c (text_of old) ≡ Some (old.offset, text_of new))
    × (new.text ≡ old.text) × IsCharBoundary new.text new.offset
EatsPunctuation c old new (Ok false) = (char_at c (text_of old) ≡ None) × (new ≡ old) × Accepts (text_of old)
EatsPunctuation c old new (Err fault) = IsStopped (text_of old) fault

-- The word at `start`, up to the offset of the reading: the longest run of keylike characters.
pub record IsAfterWord (start : ℕ) (word : List ℕ) (r : Reading) : Type 0 where
  pub is : run is_keylike (text_at r.text start) ≡ word
  pub some : (c : ℕ) × (cs : List ℕ) × (word ≡ c ∷ cs)
  pub rest : text_of r ≡ after_run is_keylike (text_at r.text start)
  pub offset : start + length word ≡ r.offset
  pub begins : IsCharBoundary r.text start
  pub ends : IsCharBoundary r.text r.offset
  pub token : (source : List ℕ) × IsToken source (text_at r.text start) (keylike word) (text_of r)

-- the word at the offset, if one stands there
abbrev pub TakesWord : Reading → Reading → Result (Option (Bor (List ℕ))) Fault → Type 0
TakesWord old new (Ok (Some word)) = IsAfterWord old.offset word.now new × (new.text ≡ old.text)
TakesWord old new (Ok None) = (run is_keylike (text_of old) ≡ []) × Accepts (text_of old)
TakesWord old new (Err fault) = IsStopped (text_of old) fault
