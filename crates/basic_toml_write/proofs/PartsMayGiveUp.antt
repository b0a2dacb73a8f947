-- A value is sent whose parts may give up with errors of their own: it is opened, its parts follow in turn, and it is
-- closed. These are the rules by which such a type's `serialize` is proved, call by call.
use Rattle.std.proofs.Common.{◌≡◌, List, [], ◌∷◌, ◌++◌, Result, Ok, Err, sym, ap, subst, ◌∙◌, inl, inr, refl}
use Rattle.std.specs.Result.{IsErrAnd}
use Rattle.std.proofs.lemmas.Result.{err_from_is_err_and}
use Rattle.basic_toml_emit.specs.Items.{Item}
use Rattle.basic_toml_write.specs.Serializer.{NoFault, PartGivesUp, Sends, Takes, Passes}
use Rattle.basic_toml_write.specs.Parts.{an_opening, a_part, opening_gives_up, part_gives_up}
use Rattle.basic_toml_write.proofs.ListsAreSentInTurn.{sends_then, sends_cut, sends_widen, sends_never}
use Rattle.basic_toml_write.specs.declared.error.WriteError.{WriteError}
use Rattle.basic_toml_write.specs.declared.serializer.Serializer.{Serializer}

abbrev Answer : Type 0
Answer = Result (Unit {0}) WriteError

abbrev OwnErrors : Type 1
OwnErrors = List Item → WriteError → Type 0

-- an error that `?` passes on
passed_on : (is : List Item) (G : OwnErrors) (old new : Serializer) (e : WriteError) (r : Answer)
    → IsErrAnd r (λ x. x ≡ e) → Sends is G old new (Err e) → Sends is G old new r
passed_on is G old new e r answered p =
    let (x, at, same) = err_from_is_err_and r answered in
    subst (λ (z : Answer). Sends is G old new z) (sym (at ∙ ap (λ y. Err y) same)) p

-- an opening that was taken, and the rest
pub next_call : (i : Item) (rest : List Item) (G : OwnErrors) (old mid new : Serializer) (r : Answer)
    → Takes (i ∷ []) old mid (Ok tt) → Sends rest G mid new r
    → Sends (an_opening i rest) (opening_gives_up i G) old new r
unfolding an_opening opening_gives_up
next_call i rest G old mid new r p q =
    sends_then (i ∷ []) rest G (PartGivesUp (i ∷ []) G)
    (λ sent e g. record { own = sent; allowed = g; at = refl }) NoFault old mid new r p.sends q

-- an opening that met an error
pub call_failed : (i : Item) (rest : List Item) (G : OwnErrors) (old new : Serializer) (e : WriteError) (r : Answer)
    → Takes (i ∷ []) old new (Err e) → IsErrAnd r (λ x. x ≡ e)
    → Sends (an_opening i rest) (opening_gives_up i G) old new r
unfolding an_opening opening_gives_up
call_failed i rest G old new e r p answered =
    passed_on (i ∷ rest) (PartGivesUp (i ∷ []) G) old new e r answered
    (sends_cut (i ∷ []) rest (PartGivesUp (i ∷ []) G) old new e
    (sends_never (PartGivesUp (i ∷ []) G) (i ∷ []) old new (Err e) p.sends))

module _ (i : Item) (is rest : List Item) (F G : OwnErrors) where
  abbrev Either : OwnErrors
  Either sent e = part_gives_up i is F G sent e

  here : (sent : List Item) (e : WriteError) → PartGivesUp (i ∷ []) F sent e → part_gives_up i is F G sent e
  unfolding part_gives_up
  here sent e g = inl g

  later : (sent : List Item) (e : WriteError) → G sent e → part_gives_up i is F G ((i ∷ is) ++ sent) e
  unfolding part_gives_up
  later sent e g = inr (record { own = sent; allowed = g; at = refl })

  -- a part that was taken, and the rest
  pub next_part : (old mid new : Serializer) (r : Answer) → Passes (i ∷ []) is F old mid (Ok tt)
      → Sends rest G mid new r → Sends (a_part i is rest) (part_gives_up i is F G) old new r
  unfolding a_part
  next_part old mid new r p q =
      sends_then (i ∷ is) rest G Either later (PartGivesUp (i ∷ []) F) old mid new r p.sends q

  -- a part that met an error
  pub part_failed : (old new : Serializer) (e : WriteError) (r : Answer) → Passes (i ∷ []) is F old new (Err e)
      → IsErrAnd r (λ x. x ≡ e) → Sends (a_part i is rest) (part_gives_up i is F G) old new r
  unfolding a_part
  part_failed old new e r p answered =
      passed_on (i ∷ (is ++ rest)) Either old new e r answered
      (sends_cut (i ∷ is) rest Either old new e
      (sends_widen (PartGivesUp (i ∷ []) F) Either here (i ∷ is) old new (Err e) p.sends))
