-- Fields that are sent one after another are sent as one.
use Rattle.std.proofs.Common.{List, [], ◌∷◌, ◌++◌, Err}
use Rattle.basic_toml_emit.specs.Items.{Item, field}
use Rattle.basic_toml_write.specs.Parts.{Adds, FailsToAdd, Never, a_field}
use Rattle.basic_toml_write.specs.declared.error.WriteError.{WriteError}
use Rattle.basic_toml_write.specs.declared.serializer.Serializer.{Serializer}
use Rattle.basic_toml_returns.specs.WrittenFields.{AllHold, AreAdded, FailToBeAdded}

-- one field
pub one_added : (name : List _) (calls : List Item) (old new : Serializer) → Adds (field name) calls old new
    → AreAdded (a_field name calls) old new
one_added name calls old new is = record { next = is.next }

pub one_fails : (name : List _) (calls : List Item) (gives_up : List Item → WriteError → Type 0) (old new : Serializer)
    (e : WriteError) → FailsToAdd (field name) calls gives_up old new e → Never gives_up
    → FailToBeAdded (a_field name calls) old new e
one_fails name calls gives_up old new e is never = record { whole = is.whole never }

pub one_holds : (P : Type 0) → P → AllHold (P ∷ [])
unfolding AllHold
one_holds P p = (p, tt)

-- some fields, and others behind them
module _ (first rest : List Item → List Item) (old mid new : Serializer) where
  pub both_added : AreAdded first old mid → AreAdded rest mid new → AreAdded (λ more. first (rest more)) old new
  both_added a b = record { next = λ more last r sent. a.next (rest more) last r (b.next more last r sent) }

  pub rest_fails : (e : WriteError) → AreAdded first old mid → FailToBeAdded rest mid new e
      → FailToBeAdded (λ more. first (rest more)) old new e
  rest_fails e a b = record { whole = λ more. a.next (rest more) new (Err e) (b.whole more) }

pub first_fails : (first rest : List Item → List Item) (old new : Serializer) (e : WriteError)
    → FailToBeAdded first old new e → FailToBeAdded (λ more. first (rest more)) old new e
first_fails first rest old new e a = record { whole = λ more. a.whole (rest more) }

pub all_hold : (some others : List (Type 0)) → AllHold some → AllHold others → AllHold (some ++ others)
unfolding AllHold
all_hold [] others first second = second
all_hold (P ∷ Ps) others first second = (first.0, all_hold Ps others first.1 second)

pub ruleset one_field = (one_added, one_fails, one_holds)

pub ruleset fields_in_turn = (both_added, rest_fails, first_fails, all_hold)
