-- Calls that an error stops.
use Rattle.std.proofs.Common.{◌≡◌, true, List, [], ◌∷◌, Option, Some, None, IsSome, Result, Ok, Err, sym}
use Rattle.std.proofs.Common.{subst, ◌⊎◌, inl, inr}
use Rattle.std.specs.Prelude.{IsErr}
use Rattle.basic_toml_emit.specs.Items.{Item}
use Rattle.basic_toml_emit.specs.Open.{State}
use Rattle.basic_toml_emit.specs.Rules.{CallFault, key_of}
use Rattle.basic_toml_emit.specs.Emitter.{state_of}
use Rattle.basic_toml_emit.specs.Error.{Meets}
use Rattle.basic_toml_emit.specs.declared.error.EmitError.{EmitError}
use Rattle.basic_toml_emit.specs.declared.error.EmitError.TheVariants as emit
use Rattle.basic_toml_emit.specs.Calls.{after}
use Rattle.basic_toml_value.specs.Nesting.{nesting_limit}
use Rattle.basic_toml_write.specs.Error.{Names}
use Rattle.basic_toml_write.specs.Serializer.{error_of, Takes, Passes, Refused}
use Rattle.basic_toml_write.specs.Stops.{Stops, Stands, IsMet}
use Rattle.basic_toml_write.proofs.ItemsGrow.{grows_at, repeated_item}
use Rattle.basic_toml_write.proofs.ListsAreSentInTurn.{takes_err, passes_cut}
use Rattle.basic_toml_write.specs.declared.error.WriteError.{WriteError}
use Rattle.basic_toml_write.specs.declared.error.WriteError.TheVariants as write
use Rattle.basic_toml_write.specs.declared.serializer.Serializer.{Serializer}

abbrev Answer : Type 0
Answer = Result (Unit {0}) WriteError

-- what stops an item without an error of its own is one that stands
pub stands_there : (stop : Option EmitError) (i : Item) (old new : Serializer) → Stops stop i old new → stop ≡ None
    → IsSome (error_of new)
stands_there None i old new stands none = subst (λ s. IsSome (error_of s)) (sym stands.unchanged) stands.met_before
stands_there (Some error) i old new met none = absurd (cc)

-- an error that stands is answered again
pub takes_again : (i : Item) (before s : Serializer) (r : Answer) → Stands before s
    → ((is : List Item) → Takes is s s r) → Takes (i ∷ []) before s r
takes_again i before s r stands refused = subst (λ b. Takes (i ∷ []) b s r) stands.unchanged (refused (i ∷ []))

-- an error that is met is kept and answered
pub takes_met : (error : EmitError) (i : Item) (before mid new : Serializer) (named : WriteError) (r : Answer)
    → IsMet error i before mid
    → ((x : Result State CallFault) → Meets error (key_of (state_of mid.emitter).open_frames) x → Names named x)
    → (named ≡ write.OutOfMemory → (error ≡ emit.OutOfMemory) ⊎ (error ≡ emit.DuplicateKey))
    → Refused named new r → Takes (i ∷ []) before new r
takes_met error i before mid new named r met names memory refused =
    takes_err i before new named r met.none_before refused (names _ met.steps) (λ wanted. from (memory wanted))
  where
    from : (error ≡ emit.OutOfMemory) ⊎ (error ≡ emit.DuplicateKey) → grows_at (state_of before.emitter) i ≡ true
    from (inl at) = met.memory at
    from (inr at) = repeated_item (state_of before.emitter) i (key_of (state_of mid.emitter).open_frames)
        (subst (λ e. Meets e (key_of (state_of mid.emitter).open_frames)
        (after nesting_limit (state_of before.emitter) i)) at met.steps)

-- an item that was stopped before a part
pub passes_stopped : (G : List Item → WriteError → Type 0) (i : Item) (ys : List Item) (old new : Serializer)
    (r : Answer) → Takes (i ∷ []) old new r → IsErr r → Passes (i ∷ []) ys G old new r
passes_stopped G i ys old new (Ok x) p is = absurd (cc)
passes_stopped G i ys old new (Err x) p is = passes_cut G i ys old new x p
