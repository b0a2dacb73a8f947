-- The items of a value that opens with an item, sends its parts in turn, and closes.
use Rattle.std.proofs.Common.{◌≡◌, ℕ, zero, suc, ◌+◌, ◌<◌, ◌≤◌, List, [], ◌∷◌, ◌++◌, length, get_or, take, drop}
use Rattle.std.proofs.Common.{refl, sym, ◌∙◌, ap, arith, append_assoc, append-nil, add-one, subst, map, Option, Some}
use Rattle.std.proofs.Common.{None, Ok, Err, Result, IfOk}
use Rattle.std.specs.List.{AllByRecursion, flat_map}
use Rattle.std.specs.Map.Iter.{TakesFirst}
use Rattle.std.proofs.lemmas.List.{map-append}
use Rattle.std.proofs.lemmas.List.Concat.{flat_map-append}
use Rattle.std.proofs.lemmas.Map.Iter.{rest_more, rest_all}
use Rattle.basic_toml_emit.specs.Items.{Item, close}
use Rattle.basic_toml_write.specs.Serializer.{NoFault, PartGivesUp, Sends, Takes, Passes, MemoryHasCause}
use Rattle.basic_toml_write.specs.Impls.{AnyGivesUp}
use Rattle.basic_toml_write.proofs.ItemsGrow.{GrowsWhereTaken}
use Rattle.basic_toml_write.proofs.MemoryHasCause.{memory_cut, memory_opened}
use Rattle.basic_toml_write.proofs.ListsAreSentInTurn.{part_after, sends_then, sends_cut, sends_never}
use Rattle.basic_toml_write.specs.declared.error.WriteError.{WriteError}
use Rattle.basic_toml_write.specs.declared.serializer.Serializer.{Serializer}

-- what holds of each, and of one more
pub all_more : {A : Type 0} (P : A → Type 0) (xs : List A) (x : A) → AllByRecursion P xs → P x
    → AllByRecursion P (xs ++ (x ∷ []))
all_more P [] x all more = (more, tt)
all_more P (y ∷ ys) x all more = (all.0, all_more P ys x all.1 more)

-- what holds at any rate holds where all went well
pub where_ok : {A E P : Type 0} (r : Result A E) → P → IfOk r (λ x. P)
where_ok (Ok x) p = p
where_ok (Err e) p = tt

pub take_all : {A : Type 0} (xs : List A) (n : ℕ) → length xs ≤ n → take n xs ≡ xs
take_all [] zero le = refl
take_all [] (suc n) le = refl
take_all (x ∷ xs) zero le = absurd (omega arith)
take_all (x ∷ xs) (suc n) le = ap (λ z. x ∷ z) (take_all xs n (omega arith))

pub take_more : {A : Type 0} (xs : List A) (i : ℕ) (x : A) → i < length xs → x ≡ get_or xs i x → take i xs
    ++ (x ∷ []) ≡ take (i + 1) xs
take_more [] i x lt e = absurd (omega arith)
take_more (y ∷ xs) zero x lt e = ap (λ z. z ∷ []) e
take_more (y ∷ xs) (suc i) x lt e = rw add-one (ap (λ z. y ∷ z) (take_more xs i x (omega arith) e ∙ rw add-one refl))

pub take_split : {A : Type 0} (xs : List A) (i : ℕ) (x : A) → i < length xs → x ≡ get_or xs i x → take i xs
    ++ (x ∷ drop (suc i) xs) ≡ xs
take_split [] i x lt e = absurd (omega arith)
take_split (y ∷ xs) zero x lt e = ap (λ z. z ∷ xs) e
take_split (y ∷ xs) (suc i) x lt e = ap (λ z. y ∷ z) (take_split xs i x (omega arith) e)

-- an iterator that has yielded some items of a list, and shows the rest
module _ {A B : Type 0} (shows : B → A) (all : List A) (ys : List B) (s t : List A) (r : Option B)
    (step : TakesFirst shows s r t) (left : map shows ys ++ s ≡ all) where
  pub yields_split : (x : B) → r ≡ Some x → map shows ys ++ (shows x ∷ t) ≡ all
  yields_split x is = ap (λ z. map shows ys ++ z) (sym (rest_more shows s t r x is step)) ∙ left

  pub yields_next : (x : B) → r ≡ Some x → map shows (ys ++ (x ∷ [])) ++ t ≡ all
  yields_next x is = ap (λ z. z ++ t) (map-append shows ys (x ∷ [])) ∙
      (append_assoc (map shows ys) (shows x ∷ []) t ∙ yields_split x is)

  pub yields_end : r ≡ None → map shows ys ≡ all
  yields_end is = sym (append-nil (map shows ys)) ∙
      (ap (λ z. map shows ys ++ z) (sym (rest_all shows s t r is step)) ∙ left)

sends_ok : (G H : List Item → WriteError → Type 0) (is : List Item) (old new : Serializer) → Sends is G old new (Ok tt)
    → Sends is H old new (Ok tt)
sends_ok G H is old new p = record { goes = p.goes; stays = p.stays }

-- a value that opens with an item, sends its parts, each after its prefix, and closes
module _ {A : Type 0} (opening : Item) (prefix : A → Item) (calls : A → List Item)
    (GivesUp : A → List Item → WriteError → Type 0) where
  abbrev part_calls : A → List Item
  part_calls x = prefix x ∷ calls x

  abbrev WholeGivesUp : List A → List Item → WriteError → Type 0
  WholeGivesUp = AnyGivesUp opening prefix calls GivesUp

  abbrev pub whole_calls : List A → List Item
  whole_calls xs = opening ∷ (flat_map part_calls xs ++ (close ∷ []))

  -- it could not be opened
  pub parts_unopened : (xs : List A) (old new : Serializer) (e : WriteError) → Takes (opening ∷ []) old new (Err e)
      → Sends (whole_calls xs) (WholeGivesUp xs) old new (Err e)
  parts_unopened xs old new e p =
      sends_cut (opening ∷ []) (flat_map part_calls xs ++ (close ∷ [])) (WholeGivesUp xs) old new e
      (sends_never (WholeGivesUp xs) (opening ∷ []) old new (Err e) p.sends)

  -- these parts were sent
  abbrev pub Sent : List A → Serializer → Serializer → Type 0
  Sent ps old mid = Sends (opening ∷ flat_map part_calls ps) NoFault old mid (Ok tt)

  pub parts_next : (ps : List A) (x : A) (old mid new : Serializer) → Sent ps old mid
      → Passes (prefix x ∷ []) (calls x) (GivesUp x) mid new (Ok tt) → Sent (ps ++ (x ∷ [])) old new
  parts_next ps x old mid new p q =
      subst (λ (l : List Item). Sends (opening ∷ l) NoFault old new (Ok tt))
      (sym (flat_map-append part_calls ps (x ∷ []) ∙ ap (λ z. flat_map part_calls ps ++ z) (append-nil (part_calls x))))
      (sends_then (opening ∷ flat_map part_calls ps) (part_calls x) NoFault NoFault (λ sent e never. never) NoFault
      old mid new (Ok tt) p
      (sends_ok (PartGivesUp (prefix x ∷ []) (GivesUp x)) NoFault (part_calls x) mid new q.sends))

  -- the same, where the parts are shown by what an iterator yields
  pub parts_yield : {B : Type 0} (shows : B → A) (ys : List B) (x : B) (old mid new : Serializer)
      → Sent (map shows ys) old mid
      → Passes (prefix (shows x) ∷ []) (calls (shows x)) (GivesUp (shows x)) mid new (Ok tt)
      → Sent (map shows (ys ++ (x ∷ []))) old new
  parts_yield shows ys x old mid new p q =
      subst (λ ps. Sent ps old new) (sym (map-append shows ys (x ∷ [])))
      (parts_next (map shows ys) (shows x) old mid new p q)

  -- what a part gave up with, once those before it were sent
  part_gave_up : (ps : List A) (x : A) (rest : List A) (sent : List Item) (e : WriteError)
      → PartGivesUp (prefix x ∷ []) (GivesUp x) sent e
      → WholeGivesUp (ps ++ (x ∷ rest)) ((opening ∷ flat_map part_calls ps) ++ sent) e
  part_gave_up ps x rest sent e g = record {
    before = ps;
    rest = rest;
    part = x;
    split = refl;
    gives_up = part_after (opening ∷ flat_map part_calls ps) (prefix x ∷ []) (GivesUp x) sent e g;
  }

  -- a part answered an error
  pub parts_fault : (xs ps : List A) (x : A) (rest : List A) → ps ++ (x ∷ rest) ≡ xs
      → (old mid new : Serializer) (e : WriteError) → Sent ps old mid
      → Passes (prefix x ∷ []) (calls x) (GivesUp x) mid new (Err e)
      → Sends (whole_calls xs) (WholeGivesUp xs) old new (Err e)
  parts_fault xs ps x rest split old mid new e p q =
      let G : List Item → WriteError → Type 0 = PartGivesUp (prefix x ∷ []) (GivesUp x) in
      let after : List Item = flat_map part_calls rest ++ (close ∷ []) in
      let same : flat_map part_calls (ps ++ (x ∷ rest)) ++ (close ∷ []) ≡ flat_map part_calls ps
      ++ (part_calls x ++ after) =
      ap (λ z. z ++ (close ∷ [])) (flat_map-append part_calls ps (x ∷ rest)) ∙ simp append_assoc in
      subst (λ (l : List A). Sends (whole_calls l) (WholeGivesUp l) old new (Err e)) split
      (subst (λ (l : List Item). Sends (opening ∷ l) (WholeGivesUp (ps ++ (x ∷ rest))) old new (Err e)) (sym same)
      (sends_then (opening ∷ flat_map part_calls ps) (part_calls x ++ after) G (WholeGivesUp (ps ++ (x ∷ rest)))
      (part_gave_up ps x rest) NoFault old mid new (Err e) p (sends_cut (part_calls x) after G mid new e q.sends)))

  -- all parts were sent, and the value closed
  pub parts_closed : (xs ps : List A) → ps ≡ xs → (old mid new : Serializer) (r : Result (Unit {0}) WriteError)
      → Sent ps old mid → Takes (close ∷ []) mid new r → Sends (whole_calls xs) (WholeGivesUp xs) old new r
  parts_closed xs ps same old mid new r p q =
      sends_then (opening ∷ flat_map part_calls xs) (close ∷ []) NoFault (WholeGivesUp xs)
      (λ sent e never. absurd never) NoFault old mid new r
      (subst (λ (l : List A). Sends (opening ∷ flat_map part_calls l) NoFault old mid (Ok tt)) same p) q.sends

  -- want of memory has its cause in the opening, whether it was refused or taken
  pub memory_unopened : (xs : List A) (old new : Serializer) (e : WriteError) → Takes (opening ∷ []) old new (Err e)
      → MemoryHasCause (whole_calls xs) old new (Err e)
  memory_unopened xs old new e p =
      memory_cut (opening ∷ []) (flat_map part_calls xs ++ (close ∷ [])) old new (Err e) p.memory

  pub memory_once_open : GrowsWhereTaken opening → (xs : List A) (old mid : Serializer)
      → Takes (opening ∷ []) old mid (Ok tt) → (new : Serializer) (r : Result (Unit {0}) WriteError)
      → MemoryHasCause (whole_calls xs) old new r
  memory_once_open grows xs old mid p new r =
      memory_opened opening grows old mid p (flat_map part_calls xs ++ (close ∷ [])) new r
