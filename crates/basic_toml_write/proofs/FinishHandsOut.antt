-- What a recorded list comes to is what is handed out.
use Rattle.std.proofs.Common.{◌≡◌, List, ◌∙◌, ap, MatchResult, Result, Ok, Err, string_bytes, String}
use Rattle.std.specs.declared.alloc.Global.{Global}
use Rattle.basic_toml_emit.specs.Items.{Item}
use Rattle.basic_toml_value.specs.Nesting.{nesting_limit}
use Rattle.basic_toml_emit.specs.Rules.{call_order}
use Rattle.basic_toml_emit.specs.Calls.{on_ok, finished, outcome}
use Rattle.basic_toml_emit.specs.Emitter.{state_of, HandsOut}
use Rattle.basic_toml_write.specs.Serializer.{HasRecorded}
use Rattle.basic_toml_write.specs.declared.error.WriteError.{WriteError}
use Rattle.basic_toml_write.specs.declared.error.WriteError.TheVariants.{CallOrder}
use Rattle.basic_toml_write.specs.declared.serializer.Serializer.{Serializer}

outcome_of : (s : Serializer) (is : List Item) → HasRecorded s is
    → outcome nesting_limit is ≡ finished (state_of s.emitter)
outcome_of s is h = ap (on_ok finished) h.taken

-- the text that a list comes to, or that its calls were not whole
abbrev pub Ends : List Item → Result (String Global) WriteError → Type 0
Ends is r = MatchResult r (λ t. outcome nesting_limit is ≡ Ok (string_bytes t)) (λ e. (e ≡ CallOrder)
    × (outcome nesting_limit is ≡ Err call_order))

pub ends : (s : Serializer) (is : List Item) (r : Result (String Global) WriteError) → HasRecorded s is
    → HandsOut CallOrder s.emitter r → Ends is r
ends s is (Ok t) h out = outcome_of s is h ∙ out
ends s is (Err e) h out = (out.0, outcome_of s is h ∙ out.1)
