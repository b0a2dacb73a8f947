-- The round trip: a value is written, and its text is read back into a `Table`. (own)
use Rattle.std.specs.Prelude.{◌≡◌, ◌⊎◌, ℕ, List, Result, IfOk, IfErr, MatchResult, false}
use Rattle.basic_toml_value.specs.Data.{Data}
use Rattle.basic_toml_value.specs.Nesting.{nesting_limit}
use Rattle.basic_toml_value.specs.View.{entries}
use Rattle.basic_toml_value.specs.declared.value.Value.{Value}
use Rattle.basic_toml_emit.specs.Items.{Item}
use Rattle.basic_toml_layout.specs.Written.{Written}
use Rattle.basic_toml_write.specs.declared.error.WriteError.{WriteError}
use Rattle.basic_toml_write.specs.Kept.{kept}
use Rattle.basic_toml_write.specs.Shapes.{is_unsupported}
use Rattle.basic_toml_write.specs.Spelling.{Spells}
use Rattle.basic_toml_layout.specs.Trees.{tree_of}
use Rattle.basic_toml_error.specs.Fault.{Fault, want_of_memory}
use Rattle.basic_toml.specs.Ser.{IsFirstFault, IsOwnFault}

-- the calls spell a value in which no unsupported shape occurs, and the table is what is kept of it
pub record IsReadBack (calls : List Item) (pairs : List (List ℕ × Value)) : Type 0 where
  pub value : Written
  pub spelled : Spells calls value
  pub supported : is_unsupported nesting_limit value ≡ false
  pub whole : Data.table (entries pairs) ≡ tree_of (kept value)

-- How a round trip ends, memory aside: with exactly what is kept of the value that the calls spell, absent options left
-- out, where no unsupported shape occurs in it; else with the first error that the calls meet; or with an error of the
-- type's own, where it gives up before a call was refused. No error of reading comes.
pub record RoundTrips (calls : List Item) (gives_up : List Item → WriteError → Type 0)
    (result : Result (List (List ℕ × Value)) Fault)
    : Type 0 where
  pub table : IfOk result (IsReadBack calls)
  pub succeeds : (w : Written) → Spells calls w → is_unsupported nesting_limit w ≡ false
      → MatchResult result (λ pairs. Data.table (entries pairs) ≡ tree_of (kept w))
      (λ f. IsOwnFault gives_up f ⊎ (f ≡ want_of_memory))
  pub refused : IfErr result (λ f. (f ≡ want_of_memory) ⊎ (IsOwnFault gives_up f ⊎ IsFirstFault calls f))
