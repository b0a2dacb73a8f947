-- A serializer that was sent the items of a value, from the start.
use Rattle.std.proofs.Common.{◌≡◌, List, [], sym, ap, subst, refl, Option, Some, None, MatchOption, Result, Ok, Err}
use Rattle.std.proofs.Common.{MatchResult, ◌⊎◌, inl, inr, String, IfErr, ◌∙◌, true}
use Rattle.std.specs.declared.alloc.Global.{Global}
use Rattle.basic_toml_emit.specs.Items.{Item}
use Rattle.basic_toml_value.specs.Nesting.{nesting_limit}
use Rattle.basic_toml_emit.specs.Open.{fresh}
use Rattle.basic_toml_emit.specs.Calls.{on_ok, finished, outcome}
use Rattle.basic_toml_emit.specs.Growth.{items_grow}
use Rattle.basic_toml_write.specs.Error.{Names}
use Rattle.basic_toml_write.specs.Recordable.{AreRecordable}
use Rattle.basic_toml_write.specs.Serializer.{ran, HasRecorded, error_of, NoFault, GaveUp, Sends, Settles, Finishes}
use Rattle.basic_toml_write.specs.Serializer.{IsShort, MemoryHasCause}
use Rattle.basic_toml_write.specs.Write.{WritesOut, HasCause}
use Rattle.basic_toml_emit.specs.Emitter.{state_of, HandsOut}
use Rattle.basic_toml_write.proofs.ListsAreSentInTurn.{GoesAt}
use Rattle.basic_toml_write.proofs.FinishHandsOut.{Ends, ends}
use Rattle.basic_toml_write.specs.declared.error.WriteError.{WriteError}
use Rattle.basic_toml_write.specs.declared.error.WriteError.TheVariants.{UnsupportedType, KeyNotString}
use Rattle.basic_toml_write.specs.declared.error.WriteError.TheVariants.{ValueAfterTable, UnsupportedNone, Custom}
use Rattle.basic_toml_write.specs.declared.error.WriteError.TheVariants.{DuplicateKey, CallOrder, NestedTooDeeply}
use Rattle.basic_toml_write.specs.declared.error.WriteError.TheVariants.{OutOfMemory}
use Rattle.basic_toml_write.specs.declared.serializer.Serializer.{Serializer}

-- an error of a list is that of its outcome
refuses_outcome : (e : WriteError) (is : List Item) → Names e (ran is) → Names e (outcome nesting_limit is)
refuses_outcome UnsupportedType is h = ap (on_ok finished) h
refuses_outcome KeyNotString is h = ap (on_ok finished) h
refuses_outcome ValueAfterTable is h = ap (on_ok finished) h
refuses_outcome UnsupportedNone is h = ap (on_ok finished) h
refuses_outcome (Custom s) is h = h
refuses_outcome (DuplicateKey k) is h = ap (on_ok finished) h
refuses_outcome CallOrder is h = ap (on_ok finished) h
refuses_outcome NestedTooDeeply is h = ap (on_ok finished) h
refuses_outcome OutOfMemory is h = tt

-- `Finishes`, by the error that was kept
abbrev FinishesAt : Serializer → Result (String Global) WriteError → Option WriteError → Type 0
FinishesAt s r o = MatchOption o (HandsOut CallOrder s.emitter r) (λ e. r ≡ Err e)

-- `Settles`, by the error that was kept
abbrev SettlesAt : Serializer → Result (Unit {0}) WriteError → Result (String Global) WriteError → Option WriteError
    → Type 0
SettlesAt s a r o = MatchOption o (MatchResult a (λ _. Finishes s r) (λ e. r ≡ Err e)) (λ e. r ≡ Err e)

module _ (is : List Item) (G : List Item → WriteError → Type 0) (s : Serializer) where
  finished_out : (r : Result (String Global) WriteError) → AreRecordable is → Ends is r → WritesOut is G r
  finished_out (Ok t) can h = (h, can)
  finished_out (Err e) can h = inr (subst (λ x. Names x (outcome nesting_limit is)) (sym h.0) h.1)

  -- an error of the type's own
  gave_up : (e : WriteError) → GaveUp [] G s e ⊎ (e ≡ OutOfMemory) → WritesOut is G (Err e)
  gave_up e (inl own) = inl (record {
    sent = own.sent;
    allowed = own.allowed;
    recordable = own.recorded.recordable;
    unrefused = rw own.recorded.taken refl;
  })
  gave_up e (inr memory) = inr (subst (λ x. Names x (outcome nesting_limit is)) (sym memory) tt)

  settled_at : (a : Result (Unit {0}) WriteError) (r : Result (String Global) WriteError) (o : Option WriteError)
      → error_of s ≡ o → GoesAt [] is G s a o → SettlesAt s a r o → WritesOut is G r
  settled_at a r (Some e) at refused same = subst (WritesOut is G) (sym same) (inr (refuses_outcome e is refused))
  settled_at (Ok x) r None at recorded f =
      finished_out r recorded.recordable (ends s is r recorded (subst (FinishesAt s r) at f))
  settled_at (Err e) r None at own same = subst (WritesOut is G) (sym same) (gave_up e own)

  -- the calls of a value were made from the start, and settled
  pub settled_out : (start : Serializer) (a : Result (Unit {0}) WriteError) (r : Result (String Global) WriteError)
      → HasRecorded start [] → Sends is G start s a → Settles s a r → WritesOut is G r
  settled_out start a r h sends settles = settled_at a r (error_of s) refl (sends.goes [] h) settles

-- a list that was recorded comes to what is handed out
pub recorded_out : (is : List Item) (s : Serializer) (r : Result (String Global) WriteError) → HasRecorded s is
    → Finishes s r → WritesOut is NoFault r
recorded_out is s r h f =
    finished_out is NoFault s r h.recordable (ends s is r h (subst (FinishesAt s r) h.unrefused f))

-- want of memory of what was settled is that of a call
pub settled_memory : (is : List Item) (start s : Serializer) (a : Result (Unit {0}) WriteError)
    (r : Result (String Global) WriteError) → HasRecorded start [] → Settles s a r → MemoryHasCause is start s a
    → IfErr r (HasCause is)
settled_memory is start s a r h settles memory = go a r (error_of s) refl from_start settles
  where
    from_start : IsShort s a → items_grow fresh is ≡ true
    from_start short =
        let at : state_of start.emitter ≡ fresh = cc h.taken in
        subst (λ z. items_grow z is ≡ true) at (memory.cause [] h short)

    handed : (r : Result (String Global) WriteError) → HandsOut CallOrder s.emitter r → IfErr r (HasCause is)
    handed (Ok t) f = tt
    handed (Err e) f = λ wanted. let never : CallOrder ≡ OutOfMemory = sym f.0 ∙ wanted in absurd (cc)

    go : (a : Result (Unit {0}) WriteError) (r : Result (String Global) WriteError) (o : Option WriteError)
        → error_of s ≡ o → (IsShort s a → items_grow fresh is ≡ true) → SettlesAt s a r o → IfErr r (HasCause is)
    go a r (Some e) at from same = subst (λ (z : Result (String Global) WriteError). IfErr z (HasCause is)) (sym same)
        (λ wanted. from (inr (at ∙ ap (λ x. Some x) wanted)))
    go (Ok x) r None at from f = handed r (subst (FinishesAt s r) at f)
    go (Err e) r None at from same = subst (λ (z : Result (String Global) WriteError). IfErr z (HasCause is)) (sym same)
        (λ wanted. from (inl (ap (λ x. Err x) wanted)))
