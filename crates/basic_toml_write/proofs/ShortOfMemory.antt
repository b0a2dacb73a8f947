-- Want of memory that is kept or answered, and what it is owed to.
use Rattle.std.proofs.Common.{◌≡◌, ℕ, true, List, [], ◌∷◌, Option, Some, None, Result, Ok, Err, ◌∙◌, subst}
use Rattle.std.proofs.Common.{inl, inr, MatchOption, MatchResult, ◌⊎◌, string_bytes}
use Rattle.basic_toml_emit.specs.Items.{Item}
use Rattle.basic_toml_value.specs.Nesting.{nesting_limit}
use Rattle.basic_toml_emit.specs.Open.{State}
use Rattle.basic_toml_emit.specs.Rules.{CallFault, duplicate_key}
use Rattle.basic_toml_emit.specs.Calls.{after}
use Rattle.basic_toml_emit.specs.Emitter.{state_of}
use Rattle.basic_toml_write.specs.Error.{Names}
use Rattle.basic_toml_write.specs.Again.{IsSame, IsAgain}
use Rattle.basic_toml_write.specs.Serializer.{IsShort, MemoryHasCause, Refused}
use Rattle.basic_toml_write.proofs.ItemsGrow.{grows_at, first_grows, repeated_item}
use Rattle.basic_toml_write.specs.declared.error.WriteError.{WriteError}
use Rattle.basic_toml_write.specs.declared.error.WriteError.TheVariants.{UnsupportedType, KeyNotString}
use Rattle.basic_toml_write.specs.declared.error.WriteError.TheVariants.{ValueAfterTable, UnsupportedNone, Custom}
use Rattle.basic_toml_write.specs.declared.error.WriteError.TheVariants.{DuplicateKey, CallOrder, NestedTooDeeply}
use Rattle.basic_toml_write.specs.declared.error.WriteError.TheVariants.{OutOfMemory}
use Rattle.basic_toml_write.specs.declared.serializer.Serializer.{Serializer}

abbrev Answer : Type 0
Answer = Result (Unit {0}) WriteError

kept_or_not : (e : WriteError) (o : Option WriteError) → o ≡ Some e → o ≡ None → ⊥
kept_or_not e o p q = absurd (cc)

-- an error stands for want of memory only where it is that, or repeats a key, which had to be copied
abbrev IsOwed : WriteError → Result State CallFault → Type 0
IsOwed e x = (e ≡ OutOfMemory) ⊎ ((key : List ℕ) × (x ≡ Err (duplicate_key key)))

again_short : (e k : WriteError) (x : Result State CallFault) → IsAgain e k → k ≡ OutOfMemory → Names e x → IsOwed e x
again_short UnsupportedType k x a short h = inl (a ∙ short)
again_short KeyNotString k x a short h = inl (a ∙ short)
again_short ValueAfterTable k x a short h = inl (a ∙ short)
again_short UnsupportedNone k x a short h = inl (a ∙ short)
again_short (Custom s) k x a short h = absurd h
again_short (DuplicateKey s) k x a short h = inr (string_bytes s, h)
again_short CallOrder k x a short h = inl (a ∙ short)
again_short NestedTooDeeply k x a short h = inl (a ∙ short)
again_short OutOfMemory k x a short h = inl (a ∙ short)

same_short : (k : WriteError) → IsSame k OutOfMemory → k ≡ OutOfMemory
same_short UnsupportedType s = s
same_short KeyNotString s = s
same_short ValueAfterTable s = s
same_short UnsupportedNone s = s
same_short (Custom t) s = s
same_short (DuplicateKey t) s = s
same_short CallOrder s = s
same_short NestedTooDeeply s = s
same_short OutOfMemory s = s

-- what was refused, and is kept or answered as want of memory
pub refused_short : (error : WriteError) (new : Serializer) (r : Answer) (x : Result State CallFault)
    → Refused error new r → IsShort new r → Names error x → IsOwed error x
refused_short error new r x refused short names = go r new.error refused short
  where
    go : (r : Answer) (o : Option WriteError)
        → MatchOption o ⊥ (λ kept. IsAgain error kept × MatchResult r (λ _. ⊥) (λ e. IsSame kept e))
        → (r ≡ Err OutOfMemory) ⊎ (o ≡ Some OutOfMemory) → IsOwed error x
    go r None h s = absurd h
    go (Ok y) (Some kept) h s = absurd h.1
    go (Err e) (Some kept) h (inr at) = let same : kept ≡ OutOfMemory = cc in again_short error kept x h.0 same names
    go (Err e) (Some kept) h (inl at) =
        let same : e ≡ OutOfMemory = cc in
        again_short error kept x h.0 (same_short kept (subst (λ y. IsSame kept y) same h.1)) names

-- an item that was refused
pub memory_met : (i : Item) (before new : Serializer) (e : WriteError) (r : Answer) → Refused e new r
    → Names e (after nesting_limit (state_of before.emitter) i)
    → (e ≡ OutOfMemory → grows_at (state_of before.emitter) i ≡ true) → MemoryHasCause (i ∷ []) before new r
memory_met i before new e r refused names because = record {
  cause = λ is h short. first_grows (state_of before.emitter) i []
      (from (refused_short e new r (after nesting_limit (state_of before.emitter) i) refused short names));
}
  where
    from : IsOwed e (after nesting_limit (state_of before.emitter) i) → grows_at (state_of before.emitter) i ≡ true
    from (inl memory) = because memory
    from (inr repeated) = repeated_item (state_of before.emitter) i repeated.0 repeated.1

-- what was taken
pub memory_taken : (is : List Item) (old new : Serializer) → new.error ≡ None → MemoryHasCause is old new (Ok tt)
memory_taken is old new none = record { cause = λ before h short. absurd (go short) }
  where
    go : IsShort new (Ok tt) → ⊥
    go (inl at) = absurd (cc)
    go (inr at) = kept_or_not OutOfMemory new.error at none

-- a serializer that has refused before
pub memory_stands : (is : List Item) (old new : Serializer) (r : Answer) (e : WriteError) → old.error ≡ Some e
    → MemoryHasCause is old new r
memory_stands is old new r e p = record { cause = λ before h short. absurd (kept_or_not e old.error p h.unrefused) }
