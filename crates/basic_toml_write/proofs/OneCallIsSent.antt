-- Types that make one call or none, and what they do with its answer.
use Rattle.std.proofs.Common.{List, [], Option, Some, None, IsSome, Result, Ok, Err, sym, subst, refl, inl, OnErr}
use Rattle.std.proofs.Common.{append-nil}
use Rattle.basic_toml_emit.specs.Items.{Item}
use Rattle.basic_toml_write.specs.Serializer.{HasRecorded, error_of, NoFault, GivesUpAfter, Sends, Takes}
use Rattle.basic_toml_write.proofs.ListsAreSentInTurn.{GoesAt}
use Rattle.basic_toml_write.specs.declared.error.WriteError.{WriteError}
use Rattle.basic_toml_write.specs.declared.serializer.Serializer.{Serializer}

-- nothing was sent
pub sends_nothing : (s : Serializer) → Sends [] NoFault s s (Ok tt)
sends_nothing s = record {
  goes = λ before h. subst (GoesAt before [] NoFault s (Ok tt)) (sym h.unrefused)
      (subst (HasRecorded s) (sym (append-nil before)) h);
  stays = λ e k. k;
}

-- a call was made, and then the type gave up
module _ (errors : WriteError → Type 0) (is : List Item) (new : Serializer) (x : WriteError) (own : errors x) where
  goes_gave_up : (before : List Item) (r : Result (Unit {0}) WriteError) (o : Option WriteError)
      → GoesAt before is NoFault new r o → OnErr r (IsSome o)
      → GoesAt before is (GivesUpAfter is errors) new (Err x) o
  goes_gave_up before (Ok y) None g k =
      inl (record { sent = is; allowed = record { at = refl; named = own }; recorded = g })
  goes_gave_up before (Err y) None g k = absurd (cc)
  goes_gave_up before r (Some e) g k = g

  pub sends_gave_up : (old : Serializer) (r : Result (Unit {0}) WriteError) → Takes is old new r
      → Sends is (GivesUpAfter is errors) old new (Err x)
  sends_gave_up old r p = record {
    goes = λ before h. goes_gave_up before r new.error (p.sends.goes before h) p.refuses;
    stays = p.sends.stays;
  }

goes_dropped : (before is : List Item) (new : Serializer) (r : Result (Unit {0}) WriteError) (o : Option WriteError)
    → GoesAt before is NoFault new r o → OnErr r (IsSome o) → GoesAt before is NoFault new (Ok tt) o
goes_dropped before is new (Ok x) None g k = g
goes_dropped before is new (Err e) None g k = absurd (cc)
goes_dropped before is new r (Some e) g k = g

-- a call was made, and its answer dropped
pub sends_dropped : (is : List Item) (old new : Serializer) (r : Result (Unit {0}) WriteError) → Takes is old new r
    → Sends is NoFault old new (Ok tt)
sends_dropped is old new r p =
    record {
      goes = λ before h. goes_dropped before is new r (error_of new) (p.sends.goes before h) p.refuses;
      stays = p.sends.stays;
    }
