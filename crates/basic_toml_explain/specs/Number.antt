-- Why a word is no value.
use Rattle.std.specs.Prelude.{◌⊎◌, ◌≡◌, ℕ, Bool, true, false, List, [], length, Option, Some, None, Result, Ok, Err}
use Rattle.basic_toml_tokens.specs.Text.{Text, offset_in, run, is_keylike}
use Rattle.basic_toml_tokens.specs.TokenAt.{Lexeme, keylike, period, plus, IsToken}
use Rattle.basic_toml_tokens.specs.Descriptions.{description_of}
use Rattle.basic_toml_tokens.specs.Reading.{Reading, text_of}
use Rattle.basic_toml_tokens.specs.Token.{TokenAt}
use Rattle.basic_toml_explain.specs.declared.number.First.{First}
use Rattle.basic_toml_explain.specs.declared.number.First.TheVariants as first
use Rattle.basic_toml_grammar.specs.Faults.{wanted, number_invalid, unquoted_string, Fault}
use Rattle.basic_toml_grammar.specs.GrammarFaults.{fault_at, is_unquoted}
use Rattle.basic_toml_grammar.specs.NumberFaults.{number_fault}
use Rattle.basic_toml_grammar.specs.NumberTokens.{behind_number, number_rest, IsWhole}
use Rattle.basic_toml_grammar.specs.Viable.{FirstRefusal}
use Rattle.basic_toml_explain.specs.Error.{want_of_memory}
use Rattle.basic_toml_explain.specs.NumberFault.{NoneRefused}

-- a token that a word may go on with, but not a number
abbrev pub is_joint : Lexeme → Bool
is_joint period = true
is_joint plus = true
is_joint _ = false

-- a period or a plus stands where another thing is wanted
abbrev pub IsJointNext : List ℕ → Reading → Fault → Type 0
IsJointNext expected r fault = (fault ≡ want_of_memory)
    ⊎ ((l : Lexeme) × (end : ℕ) × TokenAt r.text r.offset l end × (is_joint l ≡ true)
    × (fault ≡ fault_at (wanted expected (description_of l)) r.offset))

-- A number is at fault where `at` says, or a token behind one of its own is refused. Where it is not at fault, it ends
-- at `stop`: a period or a plus stands there, where another thing is wanted.
pub data IsNumberStop (end : ℕ) (expected : List ℕ) (at : Option ℕ) (behind : List Text) (stop : Text)
    : Fault → Type 0 where
  invalid : {p : ℕ} → at ≡ Some p → NoneRefused behind
      → IsNumberStop end expected at behind stop (fault_at number_invalid p)
  refused : {p : ℕ} {fault : Fault} → at ≡ Some p → FirstRefusal behind fault
      → IsNumberStop end expected at behind stop fault
  goes_on : {source : List ℕ} {rest : Text} {l : Lexeme} → at ≡ None → IsToken source stop l rest → is_joint l ≡ true
      → IsNumberStop end expected at behind stop (fault_at (wanted expected (description_of l)) (offset_in end stop))
  no_memory : IsNumberStop end expected at behind stop want_of_memory

-- it is a number, or `true` or `false` goes on; or a bare word stands there
pub data IsWordStop (end : ℕ) (expected : List ℕ) (front : Text) : Fault → Type 0 where
  number : {fault : Fault} → (number_fault end front ≡ None → IsWhole end front)
      → IsNumberStop end expected (number_fault end front) (behind_number front) (number_rest front) fault
      → IsWordStop end expected front fault
  unquoted : is_unquoted (run is_keylike front) ≡ true
      → IsWordStop end expected front (fault_at unquoted_string (offset_in end front))
  no_memory : IsWordStop end expected front want_of_memory

-- a token that a number, `true` or `false` may begin with
abbrev pub begins_word : Lexeme → Bool
begins_word (keylike _) = true
begins_word plus = true
begins_word _ = false

-- which of the two it is, if one
abbrev pub IsFirst : Lexeme → First → Type 0
IsFirst l (first.Word text) = l ≡ keylike text.now
IsFirst l first.Plus = l ≡ plus
IsFirst l first.Other = begins_word l ≡ false

-- why a word or a plus begins no value; or neither stands there
abbrev pub LacksValue : List ℕ → Reading → Result (Unit {0}) Fault → Type 0
LacksValue expected old (Ok _) = (text_of old ≡ [])
    ⊎ ((l : Lexeme) × (end : ℕ) × TokenAt old.text old.offset l end × (begins_word l ≡ false))
LacksValue expected old (Err fault) = IsWordStop (length old.text) expected (text_of old) fault
