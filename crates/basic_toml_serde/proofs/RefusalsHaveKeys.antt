-- The error of a value that is not written, by the item that is refused.
use Rattle.std.proofs.Common.{◌≡◌, ℕ, List, Result, Ok, Err, ◌⊎◌, inl, inr, ap, sym, subst, refl, ◌∙◌, Vec, Global}
use Rattle.std.proofs.Common.{String, string_bytes, map, take, drop, IfOk}
use Rattle.std.proofs.lemmas.List.{map-append, take-append-drop}
use Rattle.basic_toml_value.specs.Data.{Data, Members, table}
use Rattle.basic_toml_emit.specs.Items.{Item}
use Rattle.basic_toml_emit.specs.Open.{State}
use Rattle.basic_toml_emit.specs.Rules as rules
use Rattle.basic_toml_write.specs.Error.{Names}
use Rattle.basic_toml_write.specs.declared.error.WriteError.{WriteError}
use Rattle.basic_toml_write.specs.declared.error.WriteError.TheVariants.{UnsupportedType, KeyNotString, ValueAfterTable}
use Rattle.basic_toml_write.specs.declared.error.WriteError.TheVariants.{UnsupportedNone, Custom, DuplicateKey, CallOrder}
use Rattle.basic_toml_write.specs.declared.error.WriteError.TheVariants.{NestedTooDeeply, OutOfMemory}
use Rattle.basic_toml_error.specs.Fault.{Fault, FaultKind, without_offset, want_of_memory}
use Rattle.basic_toml_error.specs.WriteFaults.{write_kind}
use Rattle.basic_toml.specs.RowsFirst.{rows_first}
use Rattle.basic_toml.specs.Ser.{Writes, IsOwnFault, IsFirstFault, fault_kind}
use Rattle.serde.specs.Event.{Event, Log}
use Rattle.basic_toml_serde.specs.Built.{IsTableOf}
use Rattle.basic_toml_serde.specs.KeysTo.{keys_to}
use Rattle.basic_toml_serde.specs.Listed.{item_of, listed, AreListed}
use Rattle.basic_toml_serde.specs.Refusals.{IsFaultOf, LeadsInto, HasNoKeys, IsErrorOf, AreSent, IsRefusal, IsTableRefusal}
use Rattle.basic_toml_serde.specs.Refusals.{IsDataRefusal, IsRefusalRowsFirst}
use Rattle.basic_toml_serde.specs.Refused.{IsFirstRefused}
use Rattle.basic_toml_serde.specs.Sent.{AreItemsOf}
use Rattle.basic_toml_serde.specs.Written.{HasTakenAll, IsSentTable, IsTextRowsFirst, IsWrittenRowsFirst}
use Rattle.basic_toml_serde.proofs.TextRowsFirst.{written_rows_first}
use Rattle.basic_toml_serde.specs.declared.items.Item as code
use Rattle.basic_toml_serde.specs.declared.refused.Refusal.{Refusal}

-- ---- the rule that an error names

abbrev Due : WriteError → Result State rules.CallFault → Type 0
Due e x = (fault : rules.CallFault) × (x ≡ Err fault) × (write_kind e ≡ fault_kind fault)

rule_named : (e : WriteError) (x : Result State rules.CallFault) → (e ≡ OutOfMemory → ⊥) → Names e x → Due e x
rule_named UnsupportedType x other named = (rules.unsupported_type, named, refl)
rule_named KeyNotString x other named = (rules.key_not_string, named, refl)
rule_named ValueAfterTable x other named = (rules.value_after_table, named, refl)
rule_named UnsupportedNone x other named = (rules.unsupported_none, named, refl)
rule_named (Custom message) x other named = absurd named
rule_named (DuplicateKey key) x other named = (rules.duplicate_key (string_bytes key), named, refl)
rule_named CallOrder x other named = (rules.call_order, named, refl)
rule_named NestedTooDeeply x other named = (rules.nested_too_deeply, named, refl)
rule_named OutOfMemory x other named = absurd (other refl)

-- ---- without keys, and with those of the first item that is refused

abbrev with_keys : FaultKind → List (List ℕ) → Fault
with_keys kind keys = record (without_offset kind) { key_path = keys }

pub no_keys : (kind : FaultKind) (f : Fault) → f ≡ without_offset kind → HasNoKeys f
no_keys kind f is = is ∙ ap (λ (g : Fault). without_offset g.kind) (sym is)

pub first_fault : (items : List Item) (refusal : Refusal) (f : Fault) → IsFirstRefused items refusal
    → IsErrorOf refusal f → HasNoKeys f ⊎ IsFaultOf items f
first_fault items refusal f first (inl memory) = inl (no_keys _ f memory)
first_fault items refusal f first (inr (other, is)) =
    let (fault, met, same) = rule_named refusal.error _ other first.met in
    inr (record {
      place = first.place;
      error = fault;
      met = met;
      named = is
          ∙ ap (λ k. with_keys k (map string_bytes refusal.keys.items)) same
          ∙ ap (with_keys (fault_kind fault)) first.keys;
    })

-- ---- the items of a value

pub items_taken : (es : List Event) (items : Vec code.Item Global) → HasTakenAll AreListed es items
    → AreItemsOf es (listed items.items)
items_taken es items has = subst (AreItemsOf es) (sym has.recorded) has.sent

pub value_refused : (writes : Log → Log → Type 0) (items : List Item) (f : Fault) → AreSent writes items
    → HasNoKeys f ⊎ IsFaultOf items f → IsRefusal writes f
value_refused writes items f sent (inl none) = inl none
value_refused writes items f sent (inr is) = inr (items, sent, is)

pub table_sent : (writes : Log → Log → Type 0) (items : List Item) (ms : Members) → AreSent writes items
    → IsTableOf items ms → IsSentTable writes ms
table_sent writes items ms (events, sends, sent) is = (events, sends, (items, sent, is))

pub item_led_to : (items : List code.Item) (at : ℕ) (kind : FaultKind) (keys : Vec (String Global) Global)
    (from f : Fault)
    → map string_bytes keys.items ≡ keys_to (listed (take at items)) → from ≡ without_offset kind
    → f ≡ record from { key_path = map string_bytes keys.items } → HasNoKeys f ⊎ LeadsInto (listed items) f
item_led_to items at kind keys from f led made is =
    let whole : f ≡ with_keys kind (keys_to (listed (take at items))) =
    is
    ∙ ap (λ (g : Fault). record g { key_path = map string_bytes keys.items }) made
    ∙ ap (with_keys kind) led
    in
    inr (record {
      before = listed (take at items);
      rest = listed (drop at items);
      split = ap listed (sym (take-append-drop at items)) ∙ map-append item_of (take at items) (drop at items);
      named = whole ∙ ap (λ (g : Fault). with_keys g.kind (keys_to (listed (take at items)))) (sym whole);
    })

pub table_refused : (writes : Log → Log → Type 0) (items : List Item) (f : Fault) → AreSent writes items
    → HasNoKeys f ⊎ LeadsInto items f → IsTableRefusal writes f
table_refused writes items f sent (inl none) = inl none
table_refused writes items f sent (inr leads) = inr (items, sent, leads)

-- ---- the items of a table

own_has_none : (calls : List Item) (gives_up : List Item → WriteError → Type 0) (f : Fault)
    → (f ≡ want_of_memory) ⊎ (IsOwnFault gives_up f ⊎ IsFirstFault calls f) → HasNoKeys f
own_has_none calls gives_up f (inl memory) = no_keys _ f memory
own_has_none calls gives_up f (inr (inl own)) = no_keys _ f own.named
own_has_none calls gives_up f (inr (inr first)) = no_keys _ f first.named

pub writer_has_none : (calls : List Item) (gives_up : List Item → WriteError → Type 0) (f : Fault)
    → Writes calls gives_up (Err f) → HasNoKeys f
writer_has_none calls gives_up f writes = own_has_none calls gives_up f writes.refused

pub data_refused : (d moved : Data) (own f : Fault) → moved ≡ rows_first d → HasNoKeys own
    → (f ≡ own) ⊎ IsDataRefusal moved f → IsDataRefusal (rows_first d) f
data_refused d moved own f order none (inl same) = inl (subst HasNoKeys (sym same) none)
data_refused d moved own f order none (inr is) = subst (λ x. IsDataRefusal x f) order is

pub rows_first_written : (writes : Log → Log → Type 0) (ms : Members) (result : Result (String Global) Fault)
    → IsSentTable writes ms → IfOk result (λ text. IsTextRowsFirst (table ms) (string_bytes text))
    → IfOk result (λ text. IsWrittenRowsFirst writes (string_bytes text))
rows_first_written writes ms (Ok text) sent is = written_rows_first writes ms (string_bytes text) sent is
rows_first_written writes ms (Err f) sent is = tt

pub ordered_refused : (writes : Log → Log → Type 0) (ms : Members) (f : Fault) → IsSentTable writes ms
    → IsDataRefusal (rows_first (table ms)) f → IsRefusalRowsFirst writes f
ordered_refused writes ms f sent is = inr (ms, sent, is)

pub ruleset value_refusals = (no_keys, value_refused)

pub ruleset table_refusals = (no_keys, table_refused)

pub ruleset data_refusals = (writer_has_none, data_refused)
