-- What a call leaves for the calls that follow it: what is sent next is sent with it, and an error of its own ends the
-- whole.
use Rattle.std.proofs.Common.{◌≡◌, List, [], ◌∷◌, ◌++◌, Option, Some, Result, Ok, Err, IfOk, IfErr, sym}
use Rattle.std.proofs.Common.{subst}
use Rattle.basic_toml_emit.specs.Items.{Item, open_array, open_table, close, some_prefix}
use Rattle.basic_toml_write.specs.Serializer.{NoFault, PartGivesUp, Sends, Takes, Passes}
use Rattle.basic_toml_write.specs.Impls.{OptionGivesUp}
use Rattle.basic_toml_write.specs.Parts.{Never, an_opening, a_part, the_end, Opens, FailsToOpen, Adds, FailsToAdd}
use Rattle.basic_toml_write.proofs.ItemsGrow.{GrowsWhereTaken, array_grows, table_grows}
use Rattle.basic_toml_write.proofs.MemoryHasCause.{memory_opened, memory_cut}
use Rattle.basic_toml_write.proofs.ListsAreSentInTurn.{sends_then, sends_cut, sends_widen}
use Rattle.basic_toml_write.specs.declared.error.WriteError.{WriteError}
use Rattle.basic_toml_write.specs.declared.serializer.Serializer.{Serializer}

abbrev Answer : Type 0
Answer = Result (Unit {0}) WriteError

-- a call that was taken opens what follows
opens : (i : Item) → GrowsWhereTaken i → (old new : Serializer) (r : Answer) → Takes (i ∷ []) old new r
    → IfOk r (λ _. Opens i old new)
unfolding an_opening
opens i grows old new (Ok tt) p = record {
  next = λ rest last r q. sends_then (i ∷ []) rest NoFault NoFault (λ sent e never. never) NoFault old new last r
      p.sends q;
  memory = λ rest last r. memory_opened i grows old new p rest last r;
}
opens i grows old new (Err e) p = tt

pub opens_array : (old new : Serializer) (r : Answer) → Takes (open_array ∷ []) old new r
    → IfOk r (λ _. Opens open_array old new)
opens_array = opens open_array array_grows

pub opens_table : (old new : Serializer) (r : Answer) → Takes (open_table ∷ []) old new r
    → IfOk r (λ _. Opens open_table old new)
opens_table = opens open_table table_grows

-- a call that met an error
pub fails_to_open : (i : Item) (old new : Serializer) (r : Answer) → Takes (i ∷ []) old new r
    → IfErr r (FailsToOpen i old new)
unfolding an_opening
fails_to_open i old new (Ok x) p = tt
fails_to_open i old new (Err e) p = record {
  whole = λ rest. sends_cut (i ∷ []) rest NoFault old new e p.sends;
  memory = λ rest. memory_cut (i ∷ []) rest old new (Err e) p.memory;
}

-- the last call
pub closes : (old new : Serializer) (r : Answer) → Takes (close ∷ []) old new r → Sends the_end NoFault old new r
unfolding the_end
closes old new r p = p.sends

-- what a part that never gives up sends, after what was sent ahead of it
pub sends_whole : (ahead is : List Item) (gives_up : List Item → WriteError → Type 0) → Never gives_up
    → (old new : Serializer) (r : Answer) → Passes ahead is gives_up old new r → Sends (ahead ++ is) NoFault old new r
sends_whole ahead is gives_up never old new r p =
    sends_widen (PartGivesUp ahead gives_up) NoFault (λ sent e part. never part.own e part.allowed) (ahead ++ is)
    old new r p.sends

-- a part alone gives up as it does by itself
pub sends_same : (is : List Item) (gives_up : List Item → WriteError → Type 0) (old new : Serializer) (r : Answer)
    → Passes [] is gives_up old new r → Sends is gives_up old new r
sends_same is gives_up old new r p =
    sends_widen (PartGivesUp [] gives_up) gives_up
    (λ sent e part. subst (λ (l : List Item). gives_up l e) (sym part.at) part.allowed) is old new r p.sends

-- a part that was taken adds to what follows
pub adds : (i : Item) (is : List Item) (gives_up : List Item → WriteError → Type 0) (old new : Serializer) (r : Answer)
    → Passes (i ∷ []) is gives_up old new r → IfOk r (λ _. Adds i is old new)
unfolding a_part
adds i is gives_up old new (Ok tt) p = record {
  next = λ rest last r q. sends_then (i ∷ is) rest NoFault NoFault (λ sent e never. never)
      (PartGivesUp (i ∷ []) gives_up) old new last r p.sends q;
}
adds i is gives_up old new (Err e) p = tt

-- a part that met an error
pub fails_to_add : (i : Item) (is : List Item) (gives_up : List Item → WriteError → Type 0) (old new : Serializer)
    (r : Answer) → Passes (i ∷ []) is gives_up old new r → IfErr r (FailsToAdd i is gives_up old new)
unfolding a_part
fails_to_add i is gives_up old new (Ok x) p = tt
fails_to_add i is gives_up old new (Err e) p = record {
  whole = λ never rest. sends_cut (i ∷ is) rest NoFault old new e
      (sends_whole (i ∷ []) is gives_up never old new (Err e) p);
}

-- an option gives up as what it holds
pub option_sent : {A : Type 0} (calls : A → List Item) (GivesUp : A → List Item → WriteError → Type 0) (o : Option A)
    (x : A) → o ≡ Some x → (old new : Serializer) (r : Answer)
    → Passes (some_prefix ∷ []) (calls x) (GivesUp x) old new r
    → Sends (some_prefix ∷ calls x) (OptionGivesUp GivesUp o) old new r
option_sent calls GivesUp o x is old new r p =
    sends_widen (PartGivesUp (some_prefix ∷ []) (GivesUp x)) (OptionGivesUp GivesUp o)
    (λ sent e part. record { held = x; is = is; gives_up = part }) (some_prefix ∷ calls x) old new r p.sends
