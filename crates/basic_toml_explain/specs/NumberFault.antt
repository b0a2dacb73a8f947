-- How far the tokens of a number go, and what looking for its fault answers.
use Rattle.std.specs.Prelude.{◌⊎◌, ◌≡◌, ℕ, true, if◌then◌else◌, List, [], ◌∷◌, Option, None, Result, Ok, Err}
use Rattle.basic_toml_tokens.specs.Text.{Text, run, after_run, is_keylike}
use Rattle.basic_toml_tokens.specs.Reading.{Reading, text_of}
use Rattle.basic_toml_numbers.specs.Numbers.{is_whole, plus}
use Rattle.basic_toml_grammar.specs.Faults.{Fault}
use Rattle.basic_toml_grammar.specs.Reader.{char_at}
use Rattle.basic_toml_grammar.specs.NumberTokens.{is_letter_alone, behind_sign, behind_letter}
use Rattle.basic_toml_grammar.specs.Viable.{FirstRefusal}
use Rattle.basic_toml_explain.specs.Error.{want_of_memory}

-- the number has been taken
pub record IsTakenTo (rest : Text) (old new : Reading) : Type 0 where
  pub text : new.text ≡ old.text
  pub rest_is : text_of new ≡ rest

-- the first token that is refused at one of these texts has this fault; or memory was refused
abbrev pub IsStoppedBehind : List Text → Fault → Type 0
IsStoppedBehind texts fault = (fault ≡ want_of_memory) ⊎ FirstRefusal texts fault

-- no token is refused at these texts
abbrev pub NoneRefused : List Text → Type 0
NoneRefused texts = (fault : Fault) → FirstRefusal texts fault → ⊥

-- behind what is left of the word before a text: behind its letter of an exponent, if that is all
abbrev pub behind_left : List ℕ → Text → List Text
behind_left left text = if is_letter_alone left then text ∷ behind_sign (char_at plus text) else []

-- behind a period, where these characters stand before it
abbrev pub behind_fraction : List ℕ → Text → List Text
behind_fraction part text =
    text ∷ (if is_whole part then behind_letter true (run is_keylike text) (after_run is_keylike text) else [])

-- The fault is this, and no token is refused behind the number's own; or none, and the number has been taken. Or one is.
abbrev pub Finds : Option ℕ → List Text → Text → Reading → Reading → Result (Option ℕ) Fault → Type 0
Finds fault behind rest old new (Ok found) =
    (found ≡ fault) × NoneRefused behind × (found ≡ None → IsTakenTo rest old new)
Finds fault behind rest old new (Err stop) = IsStoppedBehind behind stop

-- none is refused, or one is
abbrev pub Looks : List Text → Result (Unit {0}) Fault → Type 0
Looks behind (Ok _) = NoneRefused behind
Looks behind (Err stop) = IsStoppedBehind behind stop
