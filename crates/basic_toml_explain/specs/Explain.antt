-- The error where reading stopped.
use Rattle.std.specs.Prelude.{◌⊎◌, ◌≡◌, ℕ, List, codes, length, Option}
use Rattle.basic_toml_tokens.specs.declared.error.Error.{Error}
use Rattle.basic_toml_tokens.specs.Text.{Text, text_at, folded}
use Rattle.basic_toml_tokens.specs.TokenAt.{Lexeme}
use Rattle.basic_toml_tokens.specs.Faults.{IsFault}
use Rattle.basic_toml_grammar.specs.Sections.{Section}
use Rattle.basic_toml_grammar.specs.Grammar.{IsSectionList}
use Rattle.basic_toml_grammar.specs.Faults.{nested_too_deeply, wanted, Fault}
use Rattle.basic_toml_grammar.specs.GrammarFaults.{fault_at, Stands}
use Rattle.basic_toml_grammar.specs.Viable as viable
use Rattle.basic_toml_explain.specs.declared.stop.End.{End}
use Rattle.basic_toml_explain.specs.declared.stop.End.TheVariants.{Newline, Bracket, Comma}
use Rattle.basic_toml_explain.specs.declared.stop.Stop.{Stop}
use Rattle.basic_toml_explain.specs.declared.stop.Why.{Why}
use Rattle.basic_toml_explain.specs.declared.stop.Why.TheVariants.{Memory, Deep}
use Rattle.basic_toml_explain.specs.Error.{token_fault, want_of_memory}
use Rattle.basic_toml_explain.specs.StopHoles.{StopsInText}

-- what is wanted after a value
abbrev pub end_word : End → List ℕ
end_word Newline = codes "newline"
end_word Bracket = codes "a right bracket"
end_word Comma = codes "a comma"

-- What stands at an offset, where `expected` is wanted: another thing, or no token; or memory was refused.
pub data IsWanting (bytes : List ℕ) (at : ℕ) (expected : List ℕ) : Fault → Type 0 where
  found : {o : Option Lexeme} {word : List ℕ} → Stands (text_at bytes at) o word
      → IsWanting bytes at expected (fault_at (wanted expected word) at)
  refused : {error : Error} {rest : Text} → IsFault (text_at bytes at) error rest
      → IsWanting bytes at expected (token_fault error)
  no_memory : IsWanting bytes at expected want_of_memory

-- the text has no section list
abbrev pub IsOutside : List ℕ → Type 0
IsOutside bytes = (sections : List Section) → IsSectionList (folded bytes) sections → ⊥

-- the fault that the text is due, or want of memory
abbrev pub IsDue : List ℕ → Fault → Type 0
IsDue bytes fault = (fault ≡ want_of_memory) ⊎ (IsOutside bytes → viable.IsDue (folded bytes) (length bytes) fault)

-- the fault where reading stopped
abbrev pub ExplainsWhy : List ℕ → Why → ℕ → Fault → Type 0
ExplainsWhy bytes Memory at fault = fault ≡ want_of_memory
ExplainsWhy bytes Deep at fault = fault ≡ fault_at nested_too_deeply at
ExplainsWhy bytes _ at fault = IsDue bytes fault

abbrev pub Explains : List ℕ → Stop → Fault → Type 0
Explains bytes stop fault = ExplainsWhy bytes stop.why stop.at fault

-- the stop stands in the text
abbrev pub Stops : List ℕ → Stop → Type 0
Stops bytes stop = StopsInText (folded bytes) bytes stop.why stop.at
