-- A path in words, as `bin[1].name`: nothing, or a key, and then steps that stand side by side. (own)
use Rattle.std.specs.Prelude.{◌≡◌, ℕ, ℤ, pos, List, [], ◌∷◌, length, map, Option, Some, None, Result, Ok, Err, Vec}
use Rattle.std.specs.Cow.{cow_str_bytes}
use Rattle.std.specs.declared.alloc.Global.{Global}
use Rattle.basic_toml_tokens.specs.Reading.{Reading}
use Rattle.basic_toml_tokens.specs.Token.{TokenAt}
use Rattle.basic_toml_tokens.specs.TokenAt.{Lexeme, period, left_bracket, right_bracket, keylike}
use Rattle.basic_toml_tokens.specs.Tokenizer.{key_of}
use Rattle.basic_toml_numbers.specs.Numbers.{integer_of}
use Rattle.toml_path.specs.declared.path.PathError.{PathError}
use Rattle.toml_path.specs.declared.path.PathError.TheVariants.{Malformed, OutOfMemory}
use Rattle.toml_path.specs.declared.path.Sign.{Sign}
use Rattle.toml_path.specs.declared.path.Sign.TheVariants.{Period, Open, Close}
use Rattle.toml_path.specs.declared.path.Step as code
use Rattle.toml_path.specs.declared.path.Step.TheVariants as in_code

-- to the value at a key of a table, or to an element of an array by its number, counted from 0
pub data Step : Type 0 where
  key : List ℕ → Step
  element : ℕ → Step

-- the code's value
abbrev pub step_of : code.Step → Step
step_of (in_code.Key text) = key (cow_str_bytes text)
step_of (in_code.Element number) = element number

abbrev pub natural : Option ℤ → Option ℕ
natural (Some (pos n)) = Some n
natural _ = None

-- the number of an element, an integer as TOML writes it that is not negative
abbrev pub number_of : Lexeme → Option ℕ
number_of (keylike text) = natural (integer_of text)
number_of _ = None

-- a token from `at` to `end` that f makes x of: a key, bare or a string on one line, or a number
abbrev pub IsAt : {A : Type 0} → (Lexeme → Option A) → List ℕ → ℕ → A → ℕ → Type 0
IsAt f text at x end = (l : Lexeme) × TokenAt text at l end × (f l ≡ Some x)

-- a number, and the bracket behind it
abbrev pub IsElementAt : List ℕ → ℕ → ℕ → ℕ → Type 0
IsElementAt text at n end = (to : ℕ) × IsAt number_of text at n to × TokenAt text to right_bracket end

-- a step from `at` to `end`: a key after a period, or a number between brackets
pub data IsStepAt (text : List ℕ) (at : ℕ) : Step → ℕ → Type 0 where
  by_key : {from end : ℕ} {name : List ℕ} → TokenAt text at period from → IsAt key_of text from name end
      → IsStepAt text at (key name) end
  by_number : {from end n : ℕ} → TokenAt text at left_bracket from → IsElementAt text from n end
      → IsStepAt text at (element n) end

-- steps from `at` to the end of the text
pub data AreSteps (text : List ℕ) : ℕ → List Step → Type 0 where
  over : {at : ℕ} → at ≡ length text → AreSteps text at []
  more : {at next : ℕ} {step : Step} {steps : List Step} → IsStepAt text at step next → AreSteps text next steps
      → AreSteps text at (step ∷ steps)

-- a path with its steps
pub data IsPath (text : List ℕ) : List Step → Type 0 where
  empty : text ≡ [] → IsPath text []
  begun : {end : ℕ} {name : List ℕ} {steps : List Step} → IsAt key_of text 0 name end → AreSteps text end steps
      → IsPath text (key name ∷ steps)

-- the steps of a path, which has no others; a malformed one has none
abbrev pub AnswersSteps : List ℕ → Result (Vec code.Step Global) PathError → Type 0
AnswersSteps text (Ok steps) = IsPath text (map step_of steps.items)
    × ((others : List Step) → IsPath text others → others ≡ map step_of steps.items)
AnswersSteps text (Err Malformed) = (steps : List Step) → IsPath text steps → ⊥
AnswersSteps text (Err OutOfMemory) = Unit {0}

-- on the way: what stands at `at`, P saying what does and where it ends: this alone, up to where `new` stands; or
-- nothing
abbrev pub Answers : {A : Type 0} → (List ℕ → ℕ → A → ℕ → Type 0) → List ℕ → ℕ → Reading → Option A → Type 0
Answers P text at new (Some found) = (new.text ≡ text) × P text at found new.offset
    × ((other : _) (end : ℕ) → P text at other end → (other ≡ found) × (end ≡ new.offset))
Answers P text at new None = (other : _) (end : ℕ) → P text at other end → ⊥

-- a period or a bracket
abbrev pub sign_of : Lexeme → Option Sign
sign_of period = Some Period
sign_of left_bracket = Some Open
sign_of right_bracket = Some Close
sign_of _ = None
