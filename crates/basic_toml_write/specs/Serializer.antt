-- What a serializer has recorded, and what a call leaves (own).
-- A fresh serializer has recorded the empty list. A call that answers Ok appends its items to each list that was
-- recorded; an error is the first that is due after such a list. After an error every call answers that error, and
-- nothing is handed out.
use Rattle.std.specs.Prelude.{◌≡◌, true, List, ◌++◌, Option, Some, None, IsSome, Result, Ok, Err, MatchOption}
use Rattle.std.specs.Prelude.{MatchResult, OnErr, ◌⊎◌, ⊤, String}
use Rattle.std.specs.declared.alloc.Global.{Global}
use Rattle.basic_toml_emit.specs.Items.{Item}
use Rattle.basic_toml_value.specs.Nesting.{nesting_limit}
use Rattle.basic_toml_emit.specs.Open.{State, fresh}
use Rattle.basic_toml_emit.specs.Rules.{CallFault}
use Rattle.basic_toml_emit.specs.Calls.{run}
use Rattle.basic_toml_emit.specs.Growth.{items_grow}
use Rattle.basic_toml_write.specs.Error.{Names}
use Rattle.basic_toml_write.specs.Recordable.{AreRecordable}
use Rattle.basic_toml_write.specs.Again.{IsSame, IsAgain}
use Rattle.basic_toml_emit.specs.Emitter.{state_of, HandsOut}
use Rattle.basic_toml_write.specs.declared.error.WriteError.{WriteError}
use Rattle.basic_toml_write.specs.declared.error.WriteError.TheVariants.{CallOrder, OutOfMemory}
use Rattle.basic_toml_write.specs.declared.serializer.Serializer.{Serializer}

-- what a list of items comes to, from the start
abbrev pub ran : List Item → Result State CallFault
ran is = run nesting_limit fresh is

-- the error that was answered, if one was
abbrev pub error_of : Serializer → Option WriteError
error_of s = s.error

-- the serializer has taken this list, item by item, and has refused nothing
pub record HasRecorded (s : Serializer) (is : List Item) : Type 0 where
  pub unrefused : s.error ≡ None
  pub recordable : AreRecordable is
  pub taken : ran is ≡ Ok (state_of s.emitter)

-- After which of its items what sends a list may give up, and with which errors of its own: never.
abbrev pub NoFault : List Item → WriteError → Type 0
NoFault sent e = ⊥

-- a value gives up after these items alone, with one of these errors
pub record GivesUpAfter (items : List Item) (errors : WriteError → Type 0) (sent : List Item) (e : WriteError)
    : Type 0 where
  pub at : sent ≡ items
  pub named : errors e

-- a part, before which these items are sent, gives up
pub record PartGivesUp (ahead : List Item) (gives_up : List Item → WriteError → Type 0) (sent : List Item)
    (e : WriteError)
    : Type 0 where
  pub own : List Item
  pub allowed : gives_up own e
  pub at : sent ≡ ahead ++ own

-- what sent items gave up with this error, after items of its own that are all recorded
pub record GaveUp (before : List Item) (gives_up : List Item → WriteError → Type 0) (new : Serializer) (e : WriteError)
    : Type 0 where
  pub sent : List Item
  pub allowed : gives_up sent e
  pub recorded : HasRecorded new (before ++ sent)

-- After a list that was recorded before, all of these items are recorded; or what sent them gave up, or wanted memory
-- of its own; or the first error due in them was met.
abbrev pub Goes : (before is : List Item) → (List Item → WriteError → Type 0) → Serializer
    → Result (Unit {0}) WriteError → Type 0
Goes before is gives_up new r =
    MatchOption (error_of new)
    (MatchResult r (λ _. HasRecorded new (before ++ is)) (λ e. GaveUp before gives_up new e ⊎ (e ≡ OutOfMemory)))
    (λ e. Names e (ran (before ++ is)))

-- These items were sent, by what may give up so.
pub record Sends (is : List Item) (gives_up : List Item → WriteError → Type 0) (old new : Serializer)
    (r : Result (Unit {0}) WriteError)
    : Type 0 where
  pub goes : (before : List Item) → HasRecorded old before → Goes before is gives_up new r
  pub stays : (e : WriteError) → error_of old ≡ Some e → error_of new ≡ Some e

-- An error that is met now is kept and answered, one and the same; one that was met before is answered once more.
abbrev pub AnswersError : Serializer → Serializer → Result (Unit {0}) WriteError → Type 0
AnswersError old new r =
    MatchOption (error_of new) ⊤
    (λ kept. MatchResult r (λ _. ⊥) (λ e. MatchOption (error_of old) (IsSame kept e) (λ _. IsAgain kept e)))

-- this error, or want of memory where its key finds none, is kept and answered
abbrev pub Refused : WriteError → Serializer → Result (Unit {0}) WriteError → Type 0
Refused error new r =
    MatchOption (error_of new) ⊥ (λ kept. IsAgain error kept × MatchResult r (λ _. ⊥) (λ e. IsSame kept e))

-- want of memory is answered, or kept
abbrev pub IsShort : Serializer → Result (Unit {0}) WriteError → Type 0
IsShort new r = (r ≡ Err OutOfMemory) ⊎ (error_of new ≡ Some OutOfMemory)

-- After a list that was recorded before, want of memory comes only where one of these items grows something.
pub record MemoryHasCause (is : List Item) (old new : Serializer) (r : Result (Unit {0}) WriteError) : Type 0 where
  pub cause : (before : List Item) → HasRecorded old before → IsShort new r
      → items_grow (state_of old.emitter) is ≡ true

-- a call of these items, whose faults are rules
pub record Takes (is : List Item) (old new : Serializer) (r : Result (Unit {0}) WriteError) : Type 0 where
  pub sends : Sends is NoFault old new r
  pub answers : AnswersError old new r
  pub refuses : OnErr r (IsSome (error_of new))
  pub memory : MemoryHasCause is old new r

-- a call that records items, and then has a part send its own
pub record Passes (ahead is : List Item) (gives_up : List Item → WriteError → Type 0) (old new : Serializer)
    (r : Result (Unit {0}) WriteError)
    : Type 0 where
  pub sends : Sends (ahead ++ is) (PartGivesUp ahead gives_up) old new r
  pub answers : AnswersError old new r

-- the error that was kept, or else the text, where what was taken is a whole table
abbrev pub Finishes : Serializer → Result (String Global) WriteError → Type 0
Finishes s r = MatchOption (error_of s) (HandsOut CallOrder s.emitter r) (λ e. r ≡ Err e)

-- The error that was met, whatever the type answered; else the type's own error; else what is handed out.
abbrev pub Settles : Serializer → Result (Unit {0}) WriteError → Result (String Global) WriteError → Type 0
Settles s answer r =
    MatchOption (error_of s) (MatchResult answer (λ _. Finishes s r) (λ e. r ≡ Err e)) (λ e. r ≡ Err e)
