-- Items that are sent one after another.
use Rattle.std.proofs.Common.{◌≡◌, ℕ, List, [], ◌∷◌, ◌++◌, Option, Some, None, IsSome, Result, Ok, Err, sym, ◌∙◌, ap}
use Rattle.std.proofs.Common.{subst, refl, inl, inr, true, MatchOption, MatchResult, ◌⊎◌, OnErr, append_assoc}
use Rattle.std.specs.Prelude.{⊤}
use Rattle.std.proofs.lemmas.List.Elements.{All-nil, All-cons, All-append}
use Rattle.basic_toml_emit.specs.Items.{Item}
use Rattle.basic_toml_write.specs.Recordable.{IsRecordable}
use Rattle.basic_toml_value.specs.Nesting.{nesting_limit}
use Rattle.basic_toml_emit.specs.Open.{State, fresh}
use Rattle.basic_toml_emit.specs.Rules.{CallFault}
use Rattle.basic_toml_emit.specs.Calls.{run, on_ok, after}
use Rattle.basic_toml_write.specs.Error.{Names}
use Rattle.basic_toml_write.specs.Again.{IsSame, IsAgain}
use Rattle.basic_toml_emit.specs.Emitter.{state_of}
use Rattle.basic_toml_write.specs.Serializer.{ran, HasRecorded, error_of, NoFault, PartGivesUp, GaveUp}
use Rattle.basic_toml_write.specs.Serializer.{Goes, Sends, AnswersError, Refused, Takes, Passes}
use Rattle.basic_toml_write.proofs.KeptErrorIsAnswered.{refuses_later, refuses_again}
use Rattle.basic_toml_write.proofs.ItemsGrow.{grows_at}
use Rattle.basic_toml_write.proofs.ShortOfMemory.{memory_met, memory_taken, memory_stands}
use Rattle.basic_toml_write.specs.declared.error.WriteError.{WriteError}
use Rattle.basic_toml_write.specs.declared.error.WriteError.TheVariants.{OutOfMemory}
use Rattle.basic_toml_write.specs.declared.serializer.Serializer.{Serializer}

-- what a call answers
abbrev Answer : Type 0
Answer = Result (Unit {0}) WriteError

-- after which of its items what sends a list may give up, and with which errors
abbrev OwnErrors : Type 1
OwnErrors = List Item → WriteError → Type 0

on_ok_then : {A B C : Type 0} (f : A → Result B CallFault) (g : B → Result C CallFault) (r : Result A CallFault)
    → on_ok g (on_ok f r) ≡ on_ok (λ a. on_ok g (f a)) r
on_ok_then f g (Ok a) = refl
on_ok_then f g (Err e) = refl

on_ok_same : (r : Result State CallFault) → on_ok (λ t. Ok t) r ≡ r
on_ok_same (Ok s) = refl
on_ok_same (Err e) = refl

pub run-append : (limit : ℕ) (s : State) (xs ys : List Item)
    → run limit s (xs ++ ys) ≡ on_ok (λ t. run limit t ys) (run limit s xs)
run-append limit s [] ys = refl
run-append limit s (x ∷ xs) ys = ap (λ f. on_ok f (after limit s x)) (λ i t. run-append limit t xs ys i) ∙
    sym (on_ok_then (λ t. run limit t xs) (λ t. run limit t ys) (after limit s x))

-- one item more
ran_more : (before : List Item) (i : Item) (s : State) → ran before ≡ Ok s
    → ran (before ++ (i ∷ [])) ≡ after nesting_limit s i
ran_more before i s h = run-append nesting_limit fresh before (i ∷ []) ∙
    (ap (on_ok (λ t. run nesting_limit t (i ∷ []))) h ∙ on_ok_same (after nesting_limit s i))

-- a list that is refused stays refused
refused_then : (before xs ys : List Item) (e : CallFault) → ran (before ++ xs) ≡ Err e
    → ran (before ++ (xs ++ ys)) ≡ Err e
refused_then before xs ys e h = ap ran (sym (append_assoc before xs ys)) ∙
    (run-append nesting_limit fresh (before ++ xs) ys ∙ ap (on_ok (λ t. run nesting_limit t ys)) h)

some_none : (e : WriteError) (o : Option WriteError) → o ≡ Some e → o ≡ None → ⊥
some_none e o p q = absurd (cc)

-- `Goes`, by the error that was kept
abbrev pub GoesAt : (before is : List Item) → (List Item → WriteError → Type 0) → Serializer → Answer
    → Option WriteError → Type 0
GoesAt before is G new r o =
    MatchOption o
    (MatchResult r (λ _. HasRecorded new (before ++ is)) (λ e. GaveUp before G new e ⊎ (e ≡ OutOfMemory)))
    (λ e. Names e (ran (before ++ is)))

-- `AnswersError`, by the rules that were kept before and after
abbrev AnswersAt : Answer → Option WriteError → Option WriteError → Type 0
AnswersAt r before after =
    MatchOption after ⊤ (λ kept. MatchResult r (λ _. ⊥) (λ e. MatchOption before (IsSame kept e) (λ _. IsAgain kept e)))

-- `Refused`, by the error that is kept
abbrev RefusedAt : WriteError → Answer → Option WriteError → Type 0
RefusedAt error r o = MatchOption o ⊥ (λ kept. IsAgain error kept × MatchResult r (λ _. ⊥) (λ e. IsSame kept e))

-- nothing was sent yet
pub records_nothing : (s : Serializer) → s.error ≡ None → state_of s.emitter ≡ fresh → HasRecorded s []
records_nothing s none at =
    record { unrefused = none; recordable = All-nil IsRecordable; taken = ap (λ x. Ok x) (sym at) }

-- a call of a serializer that has refused
pub takes_refused : (is : List Item) (s : Serializer) (e x : WriteError) → s.error ≡ Some e → IsAgain e x
    → Takes is s s (Err x)
takes_refused is s e x p again = record {
  sends = record { goes = λ before h. absurd (some_none e s.error p h.unrefused); stays = λ e k. k };
  answers = subst (λ o. AnswersAt (Err x) o o) (sym p) again;
  refuses = subst IsSome (sym p) refl;
  memory = memory_stands is s s (Err x) e p;
}

-- an item that was taken
pub takes_ok : (i : Item) (before mid new : Serializer) → IsRecordable i → before.error ≡ None → mid.error ≡ None
    → new ≡ mid → after nesting_limit (state_of before.emitter) i ≡ Ok (state_of mid.emitter)
    → Takes (i ∷ []) before new (Ok tt)
takes_ok i before mid new can p q same h =
    let none : new.error ≡ None = ap error_of same ∙ q in
    record {
      sends = record {
        goes = λ is recorded. subst (GoesAt is (i ∷ []) NoFault new (Ok tt)) (sym none) (record {
          unrefused = none;
          recordable = All-append IsRecordable is (i ∷ []) recorded.recordable
              (All-cons IsRecordable i [] can (All-nil IsRecordable));
          taken = ran_more is i (state_of before.emitter) recorded.taken ∙
              (h ∙ ap (λ s. Ok (state_of s.emitter)) (sym same));
        });
        stays = λ e k. absurd (some_none e before.error k p);
      };
      answers = subst (AnswersAt (Ok tt) before.error) (sym none) tt;
      refuses = tt;
      memory = memory_taken (i ∷ []) before new none;
    }

-- a call that was taken left no error
pub takes_none : (is : List Item) (old new : Serializer) → Takes is old new (Ok tt) → new.error ≡ None
takes_none is old new p = none old.error new.error p.answers
  where
    none : (o n : Option WriteError) → AnswersAt (Ok tt) o n → n ≡ None
    none o None a = refl
    none o (Some e) a = absurd a

-- `AnswersError` and `Refused` for a serializer that had refused nothing
answers_now : (error : WriteError) (old new : Serializer) (r : Answer) → old.error ≡ None → Refused error new r
    → AnswersError old new r
answers_now error old new r none h = subst (λ o. AnswersAt r o new.error) (sym none) (go new.error h)
  where
    go : (o : Option WriteError) → RefusedAt error r o → AnswersAt r None o
    go None h = absurd h
    go (Some kept) h = h.1

-- what was refused is the first error that is due
goes_refused : (G : OwnErrors) (before is : List Item) (error : WriteError) (new : Serializer) (r : Answer)
    (o : Option WriteError) → RefusedAt error r o → Names error (ran (before ++ is)) → GoesAt before is G new r o
goes_refused G before is error new r None h d = absurd h
goes_refused G before is error new r (Some kept) h d = refuses_again error kept (ran (before ++ is)) h.0 d

some_refused : (error : WriteError) (r : Answer) (o : Option WriteError) → RefusedAt error r o → IsSome o
some_refused error r None h = absurd h
some_refused error r (Some kept) h = refl

-- an item that was refused
pub takes_err : (i : Item) (before new : Serializer) (e : WriteError) (r : Answer) → before.error ≡ None
    → Refused e new r → Names e (after nesting_limit (state_of before.emitter) i)
    → (e ≡ OutOfMemory → grows_at (state_of before.emitter) i ≡ true) → Takes (i ∷ []) before new r
takes_err i before new e r p kept h because = record {
  sends = record {
    goes = λ is recorded. goes_refused NoFault is (i ∷ []) e new r new.error kept
        (refuses_later e _ _ (λ y z. ran_more is i (state_of before.emitter) recorded.taken ∙ z) h);
    stays = λ e k. absurd (some_none e before.error k p);
  };
  answers = answers_now e before new r p kept;
  refuses = on_err r (some_refused e r new.error kept);
  memory = memory_met i before new e r kept h because;
}
  where
    on_err : (r : Answer) → IsSome new.error → OnErr r (IsSome new.error)
    on_err (Ok x) h = tt
    on_err (Err x) h = h

-- a part gives up after what was sent before it, item by item or in one
pub part_after : (xs ahead : List Item) (G : OwnErrors) (sent : List Item) (e : WriteError)
    → PartGivesUp ahead G sent e → PartGivesUp (xs ++ ahead) G (xs ++ sent) e
part_after xs ahead G sent e g = record {
  own = g.own;
  allowed = g.allowed;
  at = ap (λ l. xs ++ l) g.at ∙ sym (append_assoc xs ahead g.own);
}

module _ (xs ys : List Item) where
  -- what gave up after the second list gave up after both
  gave_up_then : (G W : OwnErrors) → ((sent : List Item) (e : WriteError) → G sent e → W (xs ++ sent) e)
      → (before : List Item) (new : Serializer) (e : WriteError) → GaveUp (before ++ xs) G new e → GaveUp before W new e
  gave_up_then G W k before new e g = record {
    sent = xs ++ g.sent;
    allowed = k g.sent e g.allowed;
    recorded = subst (HasRecorded new) (append_assoc before xs g.sent) g.recorded;
  }

  goes_then : (G W : OwnErrors) → ((sent : List Item) (e : WriteError) → G sent e → W (xs ++ sent) e)
      → (before : List Item) (new : Serializer) (r : Answer) (o : Option WriteError)
      → GoesAt (before ++ xs) ys G new r o → GoesAt before (xs ++ ys) W new r o
  goes_then G W k before new (Ok x) None g = subst (HasRecorded new) (append_assoc before xs ys) g
  goes_then G W k before new (Err x) None (inl own) = inl (gave_up_then G W k before new x own)
  goes_then G W k before new (Err x) None (inr memory) = inr memory
  goes_then G W k before new r (Some e) d = subst (λ l. Names e (ran l)) (append_assoc before xs ys) d

  module _ (G W : OwnErrors) (k : (sent : List Item) (e : WriteError) → G sent e → W (xs ++ sent) e) where
    module _ (mid new : Serializer) (r : Answer) (q : Sends ys G mid new r) (before : List Item) where
      goes_after : (o : Option WriteError) → error_of mid ≡ o
          → MatchOption o (HasRecorded mid (before ++ xs)) (λ e. Names e (ran (before ++ xs)))
          → Goes before (xs ++ ys) W new r
      goes_after None at h = goes_then G W k before new r (error_of new) (q.goes (before ++ xs) h)
      goes_after (Some e) at d =
          subst (GoesAt before (xs ++ ys) W new r) (sym (q.stays e at))
          (refuses_later e _ _ (λ x z. refused_then before xs ys x z) d)

    -- one list was sent, and then another
    pub sends_then : (H : OwnErrors) (old mid new : Serializer) (r : Answer) → Sends xs H old mid (Ok tt)
        → Sends ys G mid new r → Sends (xs ++ ys) W old new r
    sends_then H old mid new r p q =
        record {
          goes = λ before h. goes_after mid new r q before (error_of mid) refl (p.goes before h);
          stays =
              λ e k. q.stays e (p.stays e k);
        }

  goes_cut : (G : OwnErrors) (new : Serializer) (x : WriteError) (before : List Item) (o : Option WriteError)
      → GoesAt before xs G new (Err x) o → GoesAt before (xs ++ ys) G new (Err x) o
  goes_cut G new x before None g = g
  goes_cut G new x before (Some e) d = refuses_later e _ _ (λ y z. refused_then before xs ys y z) d

  -- one list met an error, and what was to follow was not sent
  pub sends_cut : (G : OwnErrors) (old new : Serializer) (x : WriteError) → Sends xs G old new (Err x)
      → Sends (xs ++ ys) G old new (Err x)
  sends_cut G old new x p = record {
    goes = λ before h. goes_cut G new x before (error_of new) (p.goes before h);
    stays = p.stays;
  }

module _ (G H : OwnErrors) (k : (sent : List Item) (e : WriteError) → G sent e → H sent e) where
  gave_up_widen : (before : List Item) (new : Serializer) (e : WriteError) → GaveUp before G new e
      → GaveUp before H new e
  gave_up_widen before new e g =
      record { sent = g.sent; allowed = k g.sent e g.allowed; recorded = g.recorded }

  goes_widen : (before is : List Item) (new : Serializer) (r : Answer) (o : Option WriteError)
      → GoesAt before is G new r o → GoesAt before is H new r o
  goes_widen before is new (Ok x) None g = g
  goes_widen before is new (Err x) None (inl own) = inl (gave_up_widen before new x own)
  goes_widen before is new (Err x) None (inr memory) = inr memory
  goes_widen before is new r (Some e) g = g

  pub sends_widen : (is : List Item) (old new : Serializer) (r : Answer) → Sends is G old new r → Sends is H old new r
  sends_widen is old new r p =
      record { goes = λ before h. goes_widen before is new r (error_of new) (p.goes before h); stays = p.stays }

-- what never gives up may do so anyhow
pub sends_never : (G : OwnErrors) (is : List Item) (old new : Serializer) (r : Answer) → Sends is NoFault old new r
    → Sends is G old new r
sends_never G is old new r p = sends_widen NoFault G (λ sent e never. absurd never) is old new r p

module _ (G : OwnErrors) where
  goes_answer : (before is : List Item) (mid new : Serializer) (a r : Answer) (o : Option WriteError)
      → error_of mid ≡ o → GoesAt before is G mid a o
      → MatchOption o ((new ≡ mid) × (r ≡ a)) (λ error. Refused error new r) → Goes before is G new r
  goes_answer before is mid new a r None at g k =
      subst (λ (z : Answer). Goes before is G new z) (sym k.1)
      (subst (λ (s : Serializer). Goes before is G s a) (sym k.0) (subst (GoesAt before is G mid a) (sym at) g))
  goes_answer before is mid new a r (Some e) at g k = goes_refused G before is e new r new.error k g

  answers_part : (old mid new : Serializer) (a r : Answer) → old.error ≡ None → (o : Option WriteError)
      → error_of mid ≡ o → MatchOption o ((new ≡ mid) × (r ≡ a)) (λ error. Refused error new r) → AnswersError old new r
  answers_part old mid new a r none None at k = subst (AnswersAt r old.error) (sym (ap error_of k.0 ∙ at)) tt
  answers_part old mid new a r none (Some e) at k = answers_now e old new r none k

  alone : (sent : List Item) (e : WriteError) → G sent e → PartGivesUp [] G sent e
  alone sent e g = record { own = sent; allowed = g; at = refl }

  -- the answer of a part, or the error that was met in it
  pub passes_answer : (is : List Item) (old mid new : Serializer) (a r : Answer) → old.error ≡ None
      → Sends is G old mid a → MatchOption (error_of mid) ((new ≡ mid) × (r ≡ a)) (λ error. Refused error new r)
      → Passes [] is G old new r
  passes_answer is old mid new a r none p k = record {
    sends = sends_widen G (PartGivesUp [] G) alone is old new r (record {
      goes = λ before h. goes_answer before is mid new a r (error_of mid) refl (p.goes before h) k;
      stays = λ e at. absurd (some_none e old.error at none);
    });
    answers = answers_part old mid new a r none (error_of mid) refl k;
  }

-- an item, and then a part
pub passes_then : (G : OwnErrors) (i : Item) (ys : List Item) (old mid new : Serializer) (r : Answer)
    → Takes (i ∷ []) old mid (Ok tt) → Passes [] ys G mid new r → Passes (i ∷ []) ys G old new r
passes_then G i ys old mid new r p q = record {
  sends = sends_then (i ∷ []) ys (PartGivesUp [] G) (PartGivesUp (i ∷ []) G) (part_after (i ∷ []) [] G) NoFault
      old mid new r p.sends q.sends;
  answers = answers_then (error_of old) (error_of mid) (error_of new) p.sends.stays p.answers q.answers;
}
  where
    answers_then : (o m n : Option WriteError) → ((e : WriteError) → o ≡ Some e → m ≡ Some e) → AnswersAt (Ok tt) o m
        → AnswersAt r m n → AnswersAt r o n
    answers_then None None n stays a b = b
    answers_then (Some e) None n stays a b = absurd (some_none e None (stays e refl) refl)
    answers_then o (Some e) n stays a b = absurd a

-- an item that met an error before a part
pub passes_cut : (G : OwnErrors) (i : Item) (ys : List Item) (old new : Serializer) (x : WriteError)
    → Takes (i ∷ []) old new (Err x) → Passes (i ∷ []) ys G old new (Err x)
passes_cut G i ys old new x p =
    record {
      sends = sends_cut (i ∷ []) ys (PartGivesUp (i ∷ []) G) old new x
          (sends_never (PartGivesUp (i ∷ []) G) (i ∷ []) old new (Err x) p.sends);
      answers = p.answers;
    }

-- a part of a serializer that has refused
pub passes_refused : (is : List Item) (G : OwnErrors) (s : Serializer) (r : Answer)
    → ((js : List Item) → Takes js s s r) → Passes [] is G s s r
passes_refused is G s r refused = let p = refused is in
    record { sends = sends_never (PartGivesUp [] G) is s s r p.sends; answers = p.answers }
