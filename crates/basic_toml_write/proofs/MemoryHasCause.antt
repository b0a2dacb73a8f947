-- Items of which one grows something, wherever want of memory comes of them.
use Rattle.std.proofs.Common.{◌≡◌, true, List, [], ◌∷◌, ◌++◌, Option, Some, None, Result, Ok, Err, sym, ◌∙◌, ap}
use Rattle.std.proofs.Common.{subst, refl, inl, inr, MatchOption, ◌⊎◌}
use Rattle.basic_toml_value.specs.Data.{Members, table}
use Rattle.basic_toml_emit.specs.Items.{Item}
use Rattle.basic_toml_value.specs.Nesting.{nesting_limit}
use Rattle.basic_toml_emit.specs.Open.{State, fresh}
use Rattle.basic_toml_emit.specs.Rules.{CallFault, duplicate_key}
use Rattle.basic_toml_emit.specs.Calls.{run, on_ok, after}
use Rattle.basic_toml_emit.specs.Emitter.{state_of}
use Rattle.basic_toml_emit.specs.Growth.{items_grow}
use Rattle.basic_toml_write.specs.Impls.{data_calls}
use Rattle.basic_toml_write.specs.Serializer.{ran, HasRecorded, error_of, NoFault, IsShort, MemoryHasCause, Sends}
use Rattle.basic_toml_write.specs.Serializer.{Refused, Takes}
use Rattle.basic_toml_write.proofs.ItemsGrow.{first_grows, grow_before, grow_after, repeated_items}
use Rattle.basic_toml_write.proofs.ItemsGrow.{GrowsWhereTaken}
use Rattle.basic_toml_write.proofs.ShortOfMemory.{refused_short}
use Rattle.basic_toml_write.proofs.ListsAreSentInTurn.{run-append, GoesAt, takes_none}
use Rattle.basic_toml_write.specs.declared.error.WriteError.{WriteError}
use Rattle.basic_toml_write.specs.declared.error.WriteError.TheVariants.{OutOfMemory}
use Rattle.basic_toml_write.specs.declared.serializer.Serializer.{Serializer}

abbrev Answer : Type 0
Answer = Result (Unit {0}) WriteError

-- what more items come to after a list that was recorded
ran_on : (s : Serializer) (before is : List Item) → HasRecorded s before
    → ran (before ++ is) ≡ run nesting_limit (state_of s.emitter) is
ran_on s before is h =
    run-append nesting_limit fresh before is ∙ ap (on_ok (λ t. run nesting_limit t is)) h.taken

-- the answer of a part, or the error that was met in it
pub memory_answer : (G : List Item → WriteError → Type 0) (is : List Item) (old mid new : Serializer) (a r : Answer)
    → Sends is G old mid a → MatchOption (error_of mid) ((new ≡ mid) × (r ≡ a)) (λ error. Refused error new r)
    → MemoryHasCause is old mid a → MemoryHasCause is old new r
memory_answer G is old mid new a r sends answer memory =
    record { cause = λ before h short. go before h short (error_of mid) refl (sends.goes before h) answer }
  where
    go : (before : List Item) → HasRecorded old before → IsShort new r → (o : Option WriteError) → error_of mid ≡ o
        → GoesAt before is G mid a o → MatchOption o ((new ≡ mid) × (r ≡ a)) (λ error. Refused error new r)
        → items_grow (state_of old.emitter) is ≡ true
    go before h short None at goes same =
        memory.cause before h (subst (λ (z : Answer). IsShort mid z) same.1
        (subst (λ (s : Serializer). IsShort s r) same.0 short))
    go before h short (Some e) at goes refused = from (refused_short e new r (ran (before ++ is)) refused short goes)
      where
        from : (e ≡ OutOfMemory) ⊎ ((key : List _) × (ran (before ++ is) ≡ Err (duplicate_key key)))
            → items_grow (state_of old.emitter) is ≡ true
        from (inl wanted) = memory.cause before h (inr (at ∙ ap (λ x. Some x) wanted))
        from (inr repeated) = repeated_items (state_of old.emitter) is repeated.0
            (sym (ran_on old before is h) ∙ repeated.1)

-- a part of a serializer that has refused
pub memory_refused : (is : List Item) (s : Serializer) (r : Answer) → ((js : List Item) → Takes js s s r)
    → MemoryHasCause is s s r
memory_refused is s r refused = (refused is).memory

-- more items behind them
pub memory_cut : (xs ys : List Item) (old new : Serializer) (r : Answer) → MemoryHasCause xs old new r
    → MemoryHasCause (xs ++ ys) old new r
memory_cut xs ys old new r p =
    record { cause = λ before h short. grow_before (state_of old.emitter) xs ys (p.cause before h short) }

-- an item that was stopped before a part
pub memory_stopped : (i : Item) (ys : List Item) (old new : Serializer) (r : Answer) → Takes (i ∷ []) old new r
    → MemoryHasCause (i ∷ ys) old new r
memory_stopped i ys old new r p = memory_cut (i ∷ []) ys old new r p.memory

-- items that were taken are recorded
now_recorded : (is : List Item) (old mid : Serializer) → Takes is old mid (Ok tt) → (before : List Item)
    → HasRecorded old before → HasRecorded mid (before ++ is)
now_recorded is old mid p before h =
    subst (GoesAt before is NoFault mid (Ok tt)) (takes_none is old mid p) (p.sends.goes before h)

run_to : (is : List Item) (old mid : Serializer) → Takes is old mid (Ok tt) → (before : List Item)
    → HasRecorded old before → run nesting_limit (state_of old.emitter) is ≡ Ok (state_of mid.emitter)
run_to is old mid p before h = sym (ran_on old before is h) ∙ (now_recorded is old mid p before h).taken

-- an item, and then a part
pub memory_then : (i : Item) (ys : List Item) (old mid new : Serializer) (r : Answer) → Takes (i ∷ []) old mid (Ok tt)
    → MemoryHasCause ys mid new r → MemoryHasCause (i ∷ ys) old new r
memory_then i ys old mid new r p q = record {
  cause = λ before h short. grow_after (state_of old.emitter) (state_of mid.emitter) (i ∷ []) ys
      (run_to (i ∷ []) old mid p before h)
      (q.cause (before ++ (i ∷ [])) (now_recorded (i ∷ []) old mid p before h) short);
}

-- an opening that was taken has grown something, whatever follows
pub memory_opened : (i : Item) → GrowsWhereTaken i → (old mid : Serializer) → Takes (i ∷ []) old mid (Ok tt)
    → (rest : List Item) (last : Serializer) (r : Answer) → MemoryHasCause (i ∷ rest) old last r
memory_opened i opening old mid p rest last r = record {
  cause = λ before h short. first_grows (state_of old.emitter) i rest
      (opening.grows_there (state_of old.emitter) (state_of mid.emitter)
      (one (after nesting_limit (state_of old.emitter) i) (run_to (i ∷ []) old mid p before h)));
}
  where
    one : (x : Result State CallFault) → on_ok (λ t. Ok t) x ≡ Ok (state_of mid.emitter)
        → x ≡ Ok (state_of mid.emitter)
    one (Ok s) e = e
    one (Err f) e = e

-- a table of data that is laid out at once
pub memory_laid : (ms : Members) (old new : Serializer) (r : Answer) → state_of old.emitter ≡ fresh
    → MemoryHasCause (data_calls (table ms)) old new r
memory_laid ms old new r at =
    record { cause = λ before h short. subst (λ s. items_grow s (data_calls (table ms)) ≡ true) (sym at) refl }
