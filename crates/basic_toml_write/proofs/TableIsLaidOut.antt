-- A table of data that is laid out at once was sent by its calls.
use Rattle.std.proofs.Common.{◌≡◌, List, ◌++◌, Option, Some, None, Result, Ok, sym, ◌∙◌, ap, subst, MatchOption}
use Rattle.std.proofs.Common.{MatchResult, true, false, [], refl}
use Rattle.std.specs.Prelude.{is_some}
use Rattle.std.proofs.lemmas.Bool.{true≢false}
use Rattle.std.proofs.lemmas.List.Elements.{All-append}
use Rattle.basic_toml_value.specs.Data.{Members, table}
use Rattle.basic_toml_value.specs.Nesting.{nesting_limit}
use Rattle.basic_toml_emit.specs.Items.{Item}
use Rattle.basic_toml_layout.specs.Document.{plain, document_text}
use Rattle.basic_toml_emit.specs.Open.{state, fresh}
use Rattle.basic_toml_emit.specs.Calls.{run, on_ok}
use Rattle.basic_toml_emit.specs.Emitter.{state_of}
use Rattle.basic_toml_write.specs.declared.error.WriteError.{WriteError}
use Rattle.basic_toml_write.specs.declared.error.WriteError.TheVariants.{OutOfMemory}
use Rattle.basic_toml_write.specs.Again.{IsSame, IsAgain}
use Rattle.basic_toml_write.specs.Impls.{data_calls, members_calls}
use Rattle.basic_toml_write.specs.Recordable.{IsRecordable, AreRecordable}
use Rattle.basic_toml_write.specs.DataFits.{table_fits}
use Rattle.basic_toml_write.specs.Serializer.{ran, NoFault, Sends, Refused}
use Rattle.basic_toml_write.specs.declared.serializer.Serializer.{Serializer}
use Rattle.basic_toml_write.proofs.DataIsRecordable.{recordable_table}
use Rattle.basic_toml_write.proofs.FittingDataIsOrdered.{fitting_text}
use Rattle.basic_toml_write.proofs.FittingDataIsTaken.{whole_taken}
use Rattle.basic_toml_write.proofs.KeptErrorIsAnswered.{refuses_again}
use Rattle.basic_toml_write.proofs.ListsAreSentInTurn.{run-append, GoesAt}

pub none_if : (o : Option WriteError) → is_some o ≡ false → o ≡ None
none_if None e = refl
none_if (Some x) e = absurd (true≢false e)

not_both : (e : WriteError) (o : Option WriteError) → o ≡ Some e → o ≡ None → ⊥
not_both e o p q = absurd (cc)

module _ (ms : Members) (old new : Serializer) (none : old.error ≡ None) where
  abbrev calls : List Item
  calls = data_calls (table ms)

  -- the text stands
  pub sends_laid : new.error ≡ None → state_of old.emitter ≡ fresh
      → state_of new.emitter ≡ state (document_text plain ms) [] true → table_fits 0 ms ≡ true
      → AreRecordable (members_calls ms) → Sends calls NoFault old new (Ok tt)
  sends_laid still at now fits can = record {
    goes = λ before h. subst (GoesAt before calls NoFault new (Ok tt)) (sym still) (record {
      unrefused = still;
      recordable = All-append IsRecordable before calls h.recordable (recordable_table (table ms) ms refl can);
      taken = run-append nesting_limit fresh before calls
          ∙ (ap (on_ok (λ t. run nesting_limit t calls)) h.taken
          ∙ (ap (λ s. run nesting_limit s calls) at ∙ (whole_taken ms fits
          ∙ ap (λ s. Ok s) (ap (λ text. state text [] true) (sym (fitting_text ms fits)) ∙ sym now))));
    });
    stays = λ e k. absurd (not_both e old.error k none);
  }

  goes_short : (before : List Item) (r : Result (Unit {0}) WriteError) (o : Option WriteError)
      → MatchOption o ⊥ (λ kept. IsAgain OutOfMemory kept × MatchResult r (λ _. ⊥) (λ e. IsSame kept e))
      → GoesAt before calls NoFault new r o
  goes_short before r None h = absurd h
  goes_short before r (Some kept) h = refuses_again OutOfMemory kept (ran (before ++ calls)) h.0 tt

  -- it found no memory
  pub sends_short : (r : Result (Unit {0}) WriteError) → Refused OutOfMemory new r → Sends calls NoFault old new r
  sends_short r h = record {
    goes = λ before k. goes_short before r new.error h;
    stays = λ e k. absurd (not_both e old.error k none);
  }
