-- Items that a serializer takes, one behind another, until one is refused.
use Rattle.std.proofs.Common.{◌≡◌, List, [], ◌∷◌, ◌++◌, Option, Some, None, Result, Ok, Err, MatchOption, MatchResult}
use Rattle.std.proofs.Common.{◌⊎◌, inl, inr, true, false, is_ok, is_some, ℕ, suc, ◌<◌, length, take, drop, get_or}
use Rattle.std.proofs.Common.{drop-cons, refl, ap, sym, subst, ◌∙◌, fold, map, String, Global, string_bytes, Vec}
use Rattle.std.proofs.lemmas.List.{map-append, take-append-drop}
use Rattle.std.specs.Prelude.{⊤, IsOk}
use Rattle.basic_toml_emit.specs.Items.{Item}
use Rattle.basic_toml_write.specs.Error.{Names}
use Rattle.basic_toml_write.specs.Serializer.{ran, HasRecorded, Sends, Passes, PartGivesUp, NoFault, GaveUp, error_of}
use Rattle.basic_toml_write.specs.declared.error.WriteError.{WriteError}
use Rattle.basic_toml_write.specs.declared.error.WriteError.TheVariants.{OutOfMemory}
use Rattle.basic_toml_emit.specs.Open.{Stage}
use Rattle.basic_toml_serde.specs.KeysTo.{stages_after, set_keys}
use Rattle.basic_toml_serde.specs.Listed.{item_of, listed}
use Rattle.basic_toml_serde.specs.Recorded.{Records}
use Rattle.basic_toml_serde.specs.declared.items.Item as code
use Rattle.basic_toml_serde.specs.Refused.{Refuses, IsFirstRefused}
use Rattle.basic_toml_write.specs.declared.serializer.Serializer.{Serializer}

abbrev Answer : Type 0
Answer = Result (Unit {0}) WriteError

-- what `Goes` says, by the error that is kept
abbrev GoesBy : Option WriteError → (before is : List Item) → (List Item → WriteError → Type 0) → Serializer → Answer
    → Type 0
GoesBy o before is gives_up new r =
    MatchOption o
    (MatchResult r (λ _. HasRecorded new (before ++ is)) (λ e. GaveUp before gives_up new e ⊎ (e ≡ OutOfMemory)))
    (λ e. Names e (ran (before ++ is)))

-- ---- an item that is sent alone

-- a part that never gives up
never : (ahead before : List Item) (new : Serializer) (e : WriteError)
    → GaveUp before (PartGivesUp ahead NoFault) new e ⊎ (e ≡ OutOfMemory)
    → GaveUp before NoFault new e ⊎ (e ≡ OutOfMemory)
never ahead before new e (inl gave_up) = absurd gave_up.allowed.allowed
never ahead before new e (inr memory) = inr memory

goes_alone : (before : List Item) (i : Item) (new : Serializer) (r : Answer) (o : Option WriteError)
    → GoesBy o before (i ∷ []) (PartGivesUp (i ∷ []) NoFault) new r → GoesBy o before (i ∷ []) NoFault new r
goes_alone before i new (Ok _) None goes = goes
goes_alone before i new (Err e) None goes = never (i ∷ []) before new e goes
goes_alone before i new r (Some e) goes = goes

pub alone_sent : (i : Item) (old new : Serializer) (r : Answer) → Passes (i ∷ []) [] NoFault old new r
    → Sends (i ∷ []) NoFault old new r
alone_sent i old new r passes = record {
  goes = λ before recorded.
      goes_alone before i new r (error_of new) (passes.sends.goes before recorded);
  stays = passes.sends.stays;
}

pub ruleset item_sent = (alone_sent)

-- ---- whether it is taken

taken_now : (before : List Item) (i : Item) (new : Serializer) (o : Option WriteError) → is_some o ≡ false
    → GoesBy o before (i ∷ []) NoFault new (Ok tt) → HasRecorded new (before ++ i ∷ [])
taken_now before i new None none goes = goes
taken_now before i new (Some e) none goes = absurd (cc)

kept_now : (before : List Item) (i : Item) (new : Serializer) (r : Answer) (o : Option WriteError)
    → GoesBy o before (i ∷ []) NoFault new r → MatchOption o ⊤ (λ e. Names e (ran (before ++ i ∷ [])))
kept_now before i new r None goes = tt
kept_now before i new r (Some e) goes = goes

pub taken_so : (i : Item) (old new : Serializer) (r : Answer) → Sends (i ∷ []) NoFault old new r → is_ok r ≡ true
    → is_some (error_of new) ≡ false → Records HasRecorded (i ∷ []) old new
taken_so i old new (Ok _) sends ok none = record {
  more = λ before recorded. taken_now before i new (error_of new) none (sends.goes before recorded);
}
taken_so i old new (Err e) sends ok none = absurd (cc)

pub refused_so : (i : Item) (old new : Serializer) (r : Answer) → Sends (i ∷ []) NoFault old new r
    → Refuses i old new
refused_so i old new r sends = record {
  due = λ before recorded. kept_now before i new r (error_of new) (sends.goes before recorded);
}

pub ruleset whether_taken = (taken_so, refused_so)

-- ---- the first that is refused

abbrev pub At : List code.Item → ℕ → code.Item → Type 0
At items i item = (i < length items) × (item ≡ get_or items i item)

split_at : (items : List code.Item) (i : ℕ) (item : code.Item) → At items i item
    → listed items ≡ listed (take i items) ++ item_of item ∷ listed (drop (suc i) items)
split_at items i item (within, read) =
    let behind : drop i items ≡ item ∷ drop (suc i) items =
    drop-cons items i item within ∙ ap (λ x. x ∷ drop (suc i) items) (sym read)
    in
    ap listed (sym (take-append-drop i items) ∙ ap (λ xs. take i items ++ xs) behind)
    ∙ map-append item_of (take i items) (item ∷ drop (suc i) items)

named : (before : List Item) (i : Item) (kept : WriteError) (o : Option WriteError)
    → MatchOption o (kept ≡ OutOfMemory) (λ e. kept ≡ e) → MatchOption o ⊤ (λ e. Names e (ran (before ++ i ∷ [])))
    → Names kept (ran (before ++ i ∷ []))
named before i kept None is due = subst (λ e. Names e (ran (before ++ i ∷ []))) (sym is) tt
named before i kept (Some e) is due = subst (λ e. Names e (ran (before ++ i ∷ []))) (sym is) due

pub refused_first : (items : List code.Item) (i : ℕ) (item : code.Item) (old new : Serializer) (kept : WriteError)
    (trail : List Stage) (keys : Vec (String Global) Global)
    → At items i item → HasRecorded old (listed (take i items))
    → trail ≡ fold stages_after [] (listed (take i items)) → Refuses (item_of item) old new
    → MatchOption (error_of new) (kept ≡ OutOfMemory) (λ e. kept ≡ e) → map string_bytes keys.items ≡ set_keys trail
    → IsFirstRefused (listed items) (record { error = kept; keys = keys })
refused_first items i item old new kept trail keys at recorded behind refuses is all =
    let before : List Item = listed (take i items) in
    record {
      place = record {
        before = before;
        item = item_of item;
        rest = listed (drop (suc i) items);
        split = split_at items i item at;
        taken = subst IsOk (sym recorded.taken) refl;
      };
      met = named before (item_of item) kept (error_of new) is (refuses.due before recorded);
      keys = all ∙ ap set_keys behind;
    }
