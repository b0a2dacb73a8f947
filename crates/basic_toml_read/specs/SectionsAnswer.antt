-- What `sections` answers.
use Rattle.std.specs.Prelude.{◌≤◌, ◌<◌, ℕ, List, length, map, Result, Ok, Err, Vec}
use Rattle.std.specs.declared.alloc.Global.{Global}
use Rattle.basic_toml_tokens.specs.Text.{Text, folded}
use Rattle.basic_toml_value.specs.Nesting.{nesting_limit}
use Rattle.basic_toml_read.specs.declared.section.Section as code
use Rattle.basic_toml_grammar.specs.Sections.{Section}
use Rattle.basic_toml_grammar.specs.Faults.{nested_too_deeply, Fault}
use Rattle.basic_toml_explain.specs.Error.{want_of_memory}
use Rattle.basic_toml_grammar.specs.GrammarFaults.{fault_at}
use Rattle.basic_toml_grammar.specs.Viable.{IsDue}
use Rattle.basic_toml_grammar.specs.Grammar.{IsSectionList}
use Rattle.basic_toml_grammar.specs.Levels.{highest_level}
use Rattle.basic_toml_grammar.specs.NestingFaults.{IsTooDeepAt}
use Rattle.basic_toml_grammar.specs.DeepStops.{DeepStop, IsWithin}
use Rattle.basic_toml_read.specs.Lists.{IsGap}
use Rattle.basic_toml_read.specs.SectionView.{section_of}

-- more than blanks, comments and line feeds
abbrev pub HoldsMore : Text → Type 0
HoldsMore text = IsGap text → ⊥

-- Why a text has no section list within the limit: memory was refused, where the text is more than blanks, comments
-- and line feeds; or a key or a bracket is met above the limit, and the fault is of nesting, at the first such; or none
-- is, the text is outside the grammar, and the fault is the one that is due. So where a text is both, the first in it
-- comes: no fault of the grammar is due before what is too deep.
pub data IsRefused (bytes : List ℕ) : Fault → Type 0 where
  memory : HoldsMore (folded bytes) → IsRefused bytes want_of_memory
  deep : {offset : ℕ} → ((sections : List Section) → IsSectionList (folded bytes) sections
      → nesting_limit < highest_level sections)
      → IsTooDeepAt nesting_limit (folded bytes) offset → DeepStop nesting_limit (folded bytes) offset
      → IsRefused bytes (fault_at nested_too_deeply offset)
  outside : {fault : Fault} → IsDue (folded bytes) (length bytes) fault → IsWithin nesting_limit (folded bytes)
      → IsRefused bytes fault

-- the section list of the text, whose levels are within the limit
abbrev pub AnswersSections : List ℕ → Result (Vec code.Section Global) Fault → Type 0
AnswersSections bytes (Ok list) = IsSectionList (folded bytes) (map section_of list.items)
    × (highest_level (map section_of list.items) ≤ nesting_limit)
AnswersSections bytes (Err fault) = IsRefused bytes fault
