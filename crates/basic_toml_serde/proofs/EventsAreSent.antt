-- Items that are sent for one event after another, and the text of them.
use Rattle.std.proofs.Common.{◌≡◌, ℕ, ℤ, Bool, true, false, ap, List, [], ◌∷◌, ◌++◌, Option, Some, None, Result, Ok, Err, OnOk, MatchOption, refl}
use Rattle.std.proofs.Common.{String, Global, string_bytes, subst, sym, append_assoc, inl, inr, ◌∙◌, Vec, length}
use Rattle.std.proofs.Common.{option_to_list, unwrap_or, is_ok, is_some, ◌+◌}
use Rattle.std.specs.Vec.{vec_len}
use Rattle.std.proofs.lemmas.List.{append-nil}
use Rattle.std.specs.Prelude.{⊤, FitsSigned}
use Rattle.std.specs.Int.{w64}
use Rattle.basic_toml_tokens.specs.Text.{folded}
use Rattle.basic_toml_grammar.specs.Document.{IsDocument}
use Rattle.basic_toml_layout.specs.Trees.{tree_of}
use Rattle.basic_toml_layout.specs.Written as w
use Rattle.basic_toml_emit.specs.Items.{Item, an_absent, open_table, close, key, field}
use Rattle.basic_toml_write.specs.Error.{Names}
use Rattle.basic_toml_write.specs.Kept.{kept}
use Rattle.basic_toml_write.specs.Serializer as s
use Rattle.basic_toml_write.specs.Serializer.{ran, HasRecorded, AnswersError, Takes, Passes, NoFault}
use Rattle.basic_toml_write.specs.Write.{IsLayout}
use Rattle.basic_toml_write.specs.declared.error.WriteError.{WriteError}
use Rattle.basic_toml_write.specs.declared.serializer.Serializer.{Serializer}
use Rattle.basic_toml_round_trip.proofs.LawsHold.{read_back}
use Rattle.serde.specs.Event.{Event, seq_ends, map_ends}
use Rattle.serde.specs.Spelling.{spelled}
use Rattle.serde.proofs.Spellings.{spelled-AsIs}
use Rattle.serde.specs.declared.name.Case.{Case}
use Rattle.serde.specs.declared.name.Case.TheVariants.{AsIs}
use Rattle.serde.specs.declared.name.NameKind.{NameKind}
use Rattle.serde.specs.declared.name.NameKind.TheVariants.{Variant}
use Rattle.basic_toml_serde.specs.Sent.{Place, start, Puts, Adds, AddsScalar, AddsKey, AddsName, AddsInteger}
use Rattle.basic_toml_serde.specs.Sent.{AddsFloat, AddsOctets, AddsNothing, BeginsMapAs, EndsMap, joined, closed, none_open, Sends, SendsAll}
use Rattle.basic_toml_serde.specs.declared.failure.Failure.{Failure}
use Rattle.basic_toml_serde.specs.declared.sender.Next.{Next}
use Rattle.basic_toml_serde.specs.Recorded.{Records}
use Rattle.basic_toml_serde.specs.Sending.{place_of, SendsBy, HasSent}
use Rattle.basic_toml_serde.specs.Written.{IsTextOf, HasTakenAll}
use Rattle.basic_toml_serde.specs.declared.sender.Sender.{Sender}
use Rattle.basic_toml_serde.specs.declared.sender.Next.TheVariants.{Value, Key, Members}

-- what a call answers, and what an event does
abbrev Answer : Type 0
Answer = Result (Unit {0}) WriteError

abbrev Outcome : Type 0
Outcome = Result (Unit {0}) Failure

-- a call that met no error has recorded its items
no_error : (items : List Item) (new : Serializer) (o : Option WriteError)
    → MatchOption o (HasRecorded new items) (λ e. Names e (ran items)) → MatchOption o ⊤ (λ _. ⊥)
    → HasRecorded new items
no_error items new None goes answers = goes
no_error items new (Some e) goes answers = absurd answers

-- the same, where the error is asked for
unmet : (items : List Item) (new : Serializer) (o : Option WriteError)
    → MatchOption o (HasRecorded new items) (λ e. Names e (ran items)) → is_some o ≡ false → HasRecorded new items
unmet items new None goes none = goes
unmet items new (Some e) goes none = absurd (cc)

sent_on : (items : List Item) (G : List Item → WriteError → Type 0) (old new : Serializer)
    → s.Sends items G old new (Ok tt) → AnswersError old new (Ok tt) → Records HasRecorded items old new
sent_on items G old new sends answers = record {
  more = λ before recorded. no_error (before ++ items) new new.error (sends.goes before recorded) answers;
}

passed : (ahead is : List Item) (G : List Item → WriteError → Type 0) (old new : Serializer) (r : Answer)
    → Passes ahead is G old new r → r ≡ Ok tt → Records HasRecorded (ahead ++ is) old new
passed ahead is G old new r passes taken =
    let p = subst (λ a. Passes ahead is G old new a) taken passes in
    sent_on (ahead ++ is) _ old new p.sends p.answers

-- ---- the items that a serializer takes

-- the calls of a value that met no error
pub value_recorded : (part : List Item) (G : List Item → WriteError → Type 0) (old new : Serializer) (r : Answer)
    → s.Sends part G old new r → is_ok r ≡ true → is_some (s.error_of new) ≡ false → Records HasRecorded part old new
value_recorded part G old new (Err e) sends is none = absurd (cc)
value_recorded part G old new (Ok _) sends is none = record {
  more = λ before recorded. unmet (before ++ part) new new.error (sends.goes before recorded) none;
}

-- what a key or the key of a field answers, and an end
pub key_recorded : (part : List Item) (G : List Item → WriteError → Type 0) (old new : Serializer) (r : Answer)
    (q : Outcome) → Passes (key ∷ []) part G old new r → OnOk q (r ≡ Ok tt)
    → OnOk q (Records HasRecorded (key ∷ part) old new)
key_recorded part G old new r (Err e) passes taken = tt
key_recorded part G old new r (Ok _) passes taken = passed (key ∷ []) part G old new r passes taken

pub field_recorded : (k : List ℕ) (G : List Item → WriteError → Type 0) (old new : Serializer) (r : Answer)
    (q : Outcome) → Passes (field k ∷ []) [] G old new r → OnOk q (r ≡ Ok tt)
    → OnOk q (Records HasRecorded (field k ∷ []) old new)
field_recorded k G old new r (Err e) passes taken = tt
field_recorded k G old new r (Ok _) passes taken = passed (field k ∷ []) [] G old new r passes taken

pub end_recorded : (old new : Serializer) (r : Answer) (q : Outcome) → Takes (close ∷ []) old new r
    → OnOk q (r ≡ Ok tt) → OnOk q (Records HasRecorded (close ∷ []) old new)
end_recorded old new r (Err e) takes taken = tt
end_recorded old new r (Ok _) takes taken =
    let t = subst (λ a. Takes (close ∷ []) old new a) taken takes in
    sent_on (close ∷ []) NoFault old new t.sends t.answers

-- a float by its text
abbrev pub FloatText : Option (List ℕ) → Place → List Item → Place → Type 0
FloatText found old sent new =
    MatchOption found (AddsScalar w.refused old sent new) (λ f. AddsScalar (w.float f) old sent new)

abbrev placed : List Bool → Next → Place
placed maps next = record { maps = maps; next = next }

none_ends : (next : Next) (ms ns : List Bool) → ms ≡ ns ++ []
    → length ms ≡ 0 → length ns ≡ 0
    → EndsMap (placed ms next) (close ∷ []) (placed ns next)
none_ends next [] [] same m n = none_open refl
none_ends next [] (y ∷ ys) same m n = absurd (cc)
none_ends next (x ∷ xs) ns same m n = absurd (cc)

more_sent : (first old new : Place) (es : List Event) (e : Event) (before sent : List Item)
    → SendsAll first es before old → Sends e old sent new → SendsAll first (es ++ e ∷ []) (before ++ sent) new
more_sent first old new [] e before sent (none, at) step = (
  sent,
  [],
  new,
  subst (λ p. Sends e p sent new) at step,
  (refl, refl),
  ap (λ b. b ++ sent) none ∙ sym (append-nil sent),
)
more_sent first old new (x ∷ es) e before sent (now, later, mid, this, rest, same) step = (
  now,
  later ++ sent,
  mid,
  this,
  more_sent mid old new es e later sent rest step,
  ap (λ b. b ++ sent) same ∙ append_assoc now later sent,
)

-- a sink of type S
module _ {S : Type 0} (has_recorded : S → List Item → Type 0) where
  -- ---- one event

  records_none : (sink : S) → Records has_recorded [] sink sink
  records_none sink =
      record { more = λ before recorded. subst (has_recorded sink) (sym (append-nil before)) recorded }

  -- a name as it is
  pub name_as_is : (kind : NameKind) (name : List ℕ) (case : Case) (old new : Sender S) (q : Outcome) → case ≡ AsIs
      → OnOk q (SendsBy has_recorded (AddsKey name) old new)
      → OnOk q (SendsBy has_recorded (AddsName kind name case) old new)
  name_as_is kind name case old new q same by =
      subst (λ c. OnOk q (SendsBy has_recorded (AddsKey (spelled c kind name)) old new)) (sym same)
      (subst (λ k. OnOk q (SendsBy has_recorded (AddsKey k) old new)) (sym (spelled-AsIs kind name)) by)

  pub variant_as_is : (name : List ℕ) (case : Case) (old new : Sender S) (q : Outcome) → case ≡ AsIs
      → OnOk q (SendsBy has_recorded (AddsScalar (w.other_text name)) old new)
      → OnOk q (SendsBy has_recorded (AddsScalar (w.other_text (spelled case Variant name))) old new)
  variant_as_is name case old new q same by =
      subst (λ c. OnOk q (SendsBy has_recorded (AddsScalar (w.other_text (spelled c Variant name))) old new)) (sym same)
      (subst (λ k. OnOk q (SendsBy has_recorded (AddsScalar (w.other_text k)) old new)) (sym (spelled-AsIs Variant name))
      by)

  -- what a sink answers of a value where one comes next, of a key, and of the key of a field
  pub value_sent : (part : List Item) (old : Sender S) (sink : S) (q : Outcome) → old.next ≡ Value
      → OnOk q (Records has_recorded part old.sink sink)
      → OnOk q (SendsBy has_recorded (Adds part) old (record old { sink = sink }))
  value_sent part old sink (Err e) at recorded = tt
  value_sent part old sink (Ok _) at recorded = record {
    sent = part;
    goes = (subst (λ n. Puts n part part) (sym at) refl, refl);
    recorded = recorded;
  }

  pub key_sent : (part : List Item) (old : Sender S) (sink : S) (q : Outcome) → old.next ≡ Key
      → OnOk q (Records has_recorded (key ∷ part) old.sink sink)
      → OnOk q (SendsBy has_recorded (Adds part) old (record old { sink = sink }))
  key_sent part old sink (Err e) at recorded = tt
  key_sent part old sink (Ok _) at recorded = record {
    sent = key ∷ part;
    goes = (subst (λ n. Puts n part (key ∷ part)) (sym at) refl, refl);
    recorded = recorded;
  }

  pub name_sent : (k : List ℕ) (old : Sender S) (sink : S) (q : Outcome)
      → OnOk q (Records has_recorded (field k ∷ []) old.sink sink)
      → OnOk q (SendsBy has_recorded (AddsKey k) old (record old { sink = sink }))
  name_sent k old sink (Err e) recorded = tt
  name_sent k old sink (Ok _) recorded = record { sent = field k ∷ []; goes = (refl, refl); recorded = recorded }

  -- what it answers of the end of an array
  pub end_sent : (old : Sender S) (sink : S) (q : Outcome)
      → OnOk q (Records has_recorded (close ∷ []) old.sink sink)
      → OnOk q (SendsBy has_recorded (Sends seq_ends) old (record old { sink = sink }))
  end_sent old sink (Err e) recorded = tt
  end_sent old sink (Ok _) recorded = record { sent = close ∷ []; goes = (refl, refl); recorded = recorded }

  pub integer_sent : (z : ℤ) (old new : Sender S) (q : Outcome)
      → OnOk q (SendsBy has_recorded (AddsScalar (w.integer z)) old new)
      → OnOk q (SendsBy has_recorded (AddsInteger z) old new)
  integer_sent z old new (Err e) by = tt
  integer_sent z old new (Ok _) by = record { sent = by.sent; goes = inl by.goes; recorded = by.recorded }

  pub integer_refused : (z : ℤ) (old new : Sender S) (q : Outcome) → (FitsSigned w64 z → ⊥)
      → OnOk q (SendsBy has_recorded (AddsScalar w.refused) old new)
      → OnOk q (SendsBy has_recorded (AddsInteger z) old new)
  integer_refused z old new (Err e) unfit by = tt
  integer_refused z old new (Ok _) unfit by =
      record { sent = by.sent; goes = inr (unfit, by.goes); recorded = by.recorded }

  pub float_sent : (found : Option (List ℕ)) (old new : Sender S) (q : Outcome)
      → OnOk q (SendsBy has_recorded (FloatText found) old new) → OnOk q (SendsBy has_recorded AddsFloat old new)
  float_sent found old new (Err e) by = tt
  float_sent None old new (Ok _) by = record { sent = by.sent; goes = inr by.goes; recorded = by.recorded }
  float_sent (Some t) old new (Ok _) by = record { sent = by.sent; goes = inl (t, by.goes); recorded = by.recorded }

  deeper : (old mid : Sender S) (maps : Vec Bool Global) → maps.items ≡ mid.maps.items ++ false ∷ []
      → place_of mid ≡ place_of old
      → place_of (record mid { maps = maps }) ≡ record (place_of old) { maps = old.maps.items ++ false ∷ [] }
  deeper old mid maps pushed at =
      ap (λ (ms : List Bool). placed ms mid.next) pushed
      ∙ ap (λ (p : Place). placed (p.maps ++ false ∷ []) p.next) at

  -- what stands where no members of a map come next
  pub octets_sent : (bs : List ℕ) (old new : Sender S) (q : Outcome) (n : Next) → (n ≡ Members → ⊥)
      → OnOk q (SendsBy has_recorded (AddsScalar (w.bytes bs)) old new)
      → OnOk q (SendsBy has_recorded (λ at sent last. AddsOctets n bs at sent last) old new)
  octets_sent bs old new q Value other by = by
  octets_sent bs old new q Key other by = by
  octets_sent bs old new q Members other by = absurd (other refl)

  pub nothing_sent : (old new : Sender S) (q : Outcome) (n : Next) → (n ≡ Members → ⊥)
      → OnOk q (SendsBy has_recorded (Adds (an_absent ∷ [])) old new)
      → OnOk q (SendsBy has_recorded (λ at sent last. AddsNothing n at sent last) old new)
  nothing_sent old new q Value other by = by
  nothing_sent old new q Key other by = by
  nothing_sent old new q Members other by = absurd (other refl)

  -- a map begins, as a table or as members of the map that is open
  pub map_begun : (old mid : Sender S) (maps : Vec Bool Global) (n : Next) → old.next ≡ n → (n ≡ Members → ⊥)
      → SendsBy has_recorded (Adds (open_table ∷ [])) old mid → maps.items ≡ mid.maps.items ++ false ∷ []
      → SendsBy has_recorded (λ at sent last. BeginsMapAs n at sent last) old (record mid { maps = maps })
  map_begun old mid maps Value at other by pushed = record {
    sent = by.sent;
    goes = (subst (λ n. Puts n (open_table ∷ []) by.sent) at by.goes.0, deeper old mid maps pushed by.goes.1);
    recorded = by.recorded;
  }
  map_begun old mid maps Key at other by pushed = record {
    sent = by.sent;
    goes = (subst (λ n. Puts n (open_table ∷ []) by.sent) at by.goes.0, deeper old mid maps pushed by.goes.1);
    recorded = by.recorded;
  }
  map_begun old mid maps Members at other by pushed = absurd (other refl)

  pub members_begun : (old : Sender S) (maps : Vec Bool Global) → maps.items ≡ old.maps.items ++ true ∷ []
      → SendsBy has_recorded (λ at sent last. BeginsMapAs Members at sent last) old
      (record old { maps = maps; next = Value })
  members_begun old maps pushed = record {
    sent = [];
    goes = (refl, ap (λ (ms : List Bool). placed ms Value) pushed);
    recorded = records_none old.sink;
  }

  -- a map ends: what was popped of those that are open says how
  pub joined_ends : (p : Option Bool) (old : Sender S) (maps : Vec Bool Global)
      → old.maps.items ≡ maps.items ++ option_to_list p → unwrap_or p false ≡ true
      → SendsBy has_recorded (Sends map_ends) old (record old { maps = maps })
  joined_ends None old maps popped is = absurd (cc)
  joined_ends (Some false) old maps popped is = absurd (cc)
  joined_ends (Some true) old maps popped is =
      record { sent = []; goes = joined popped; recorded = records_none old.sink }

  abbrev left_by : Sender S → Vec Bool Global → S → Sender S
  left_by old maps sink = record old { maps = maps; sink = sink }

  pub closed_ends : (p : Option Bool) (old : Sender S) (maps : Vec Bool Global) (sink : S) (q : Outcome)
      → old.maps.items ≡ maps.items ++ option_to_list p
      → MatchOption p ((vec_len old.maps ≡ 0) × (vec_len maps ≡ 0)) (λ _. vec_len maps + 1 ≡ vec_len old.maps)
      → unwrap_or p false ≡ false
      → OnOk q (Records has_recorded (close ∷ []) old.sink sink)
      → OnOk q (SendsBy has_recorded (Sends map_ends) old (left_by old maps sink))
  closed_ends p old maps sink (Err e) popped all is recorded = tt
  closed_ends None old maps sink (Ok _) popped all is recorded = record {
    sent = close ∷ [];
    goes = none_ends old.next old.maps.items maps.items popped (sym old.maps.ok.0 ∙ all.0) (sym maps.ok.0 ∙ all.1);
    recorded = recorded;
  }
  closed_ends (Some false) old maps sink (Ok _) popped all is recorded =
      record { sent = close ∷ []; goes = closed popped; recorded = recorded }
  closed_ends (Some true) old maps sink (Ok _) popped all is recorded = absurd (cc)

  -- ---- one event after another

  pub event_sent : (es : List Event) (e : Event) (old new : Sender S) → HasSent has_recorded es old
      → SendsBy has_recorded (Sends e) old new → HasSent has_recorded (es ++ e ∷ []) new
  event_sent es e old new has by = record {
    sent = has.sent ++ by.sent;
    goes = more_sent start (place_of old) (place_of new) es e has.sent by.sent has.goes by.goes;
    recorded = by.recorded.more has.sent has.recorded;
  }

  pub nothing_yet : (new : Sender S) → place_of new ≡ start → has_recorded new.sink [] → HasSent has_recorded [] new
  nothing_yet new at recorded = record {
    sent = [];
    goes = (refl, at);
    recorded = recorded;
  }

  -- the same, where no event failed
  pub written_on : (es more : List Event) (e : Event) (old new : Sender S) (has_failed : Bool)
      → (has_failed ≡ false → HasSent has_recorded es old) → SendsBy has_recorded (Sends e) old new
      → more ≡ es ++ e ∷ [] → has_failed ≡ false → HasSent has_recorded more new
  written_on es more e old new has_failed has by same none =
      subst (λ l. HasSent has_recorded l new) (sym same) (event_sent es e old new (has none) by)

  -- what has taken the items of all events
  pub all_taken : (es : List Event) (sender : Sender S) (sink : S) → HasSent has_recorded es sender
      → sink ≡ sender.sink → HasTakenAll has_recorded es sink
  all_taken es sender sink has same = record {
    items = has.sent;
    sent = (place_of sender, has.goes);
    recorded = subst (λ k. has_recorded k has.sent) (sym same) has.recorded;
  }

-- the text of what was sent
pub text_sent : (es : List Event) (ser : Serializer) (text : String Global) → HasTakenAll HasRecorded es ser
    → ((items : List Item) → HasRecorded ser items → IsLayout items (Ok text)) → IsTextOf es (string_bytes text)
text_sent es ser text has laid =
    let (value, spelled, supported, same) = laid has.items has.recorded in
    record {
      items = has.items;
      sent = has.sent;
      value = value;
      spelled = spelled;
      supported = supported;
      laid_out = same;
      read_back = subst (λ (b : List ℕ). IsDocument (folded b) (tree_of (kept value))) (sym same)
          (read_back has.items value spelled has.recorded.recordable supported);
    }

pub ruleset items_recorded = (value_recorded, key_recorded, field_recorded, end_recorded)

pub ruleset parts_sent = (value_sent, key_sent, name_sent, nothing_yet, name_as_is)

pub ruleset events_sent = (end_sent, integer_sent, integer_refused, float_sent, octets_sent, nothing_sent, variant_as_is, map_begun, members_begun, joined_ends, closed_ends)
