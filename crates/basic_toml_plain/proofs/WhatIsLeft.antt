-- What is passed and what is left of some parts that are made into others, one after another.
use Rattle.std.proofs.Common.{◌≡◌, ◌≤◌, ◌+◌, Bool, true, List, [], ◌∷◌, ◌++◌, append_assoc, length, map, Vec, Global}
use Rattle.std.proofs.Common.{ap, ap₂, arith, sym, ◌∙◌}
use Rattle.std.specs.List.{list_all}
use Rattle.std.specs.Vec.{vec_len, vec_capacity}
use Rattle.std.proofs.lemmas.Bool.{and_parts}
use Rattle.std.proofs.lemmas.List.{append-nil, map-append, nil_from_length}

module _ {A B D : Type 0} (f : A → D) (g : B → D) where
  -- one more is made of the first that is left
  pub mapped_next : (xs next : List A) (ys rest whole : List B) (x : A) (y : B) → ys ≡ y ∷ rest
      → next ≡ xs ++ x ∷ [] → map f xs ++ map g ys ≡ map g whole → f x ≡ g y → map f next ++ map g rest ≡ map g whole
  mapped_next xs next ys rest whole x y left next_is same equal =
      rw (next_is, map-append f xs (x ∷ []), equal, append_assoc)
      (ap (λ l. map f xs ++ map g l) (sym left) ∙ same)

-- where nothing is left all is passed
pub nothing_left : {A : Type 0} (xs : List A) → length xs ≡ 0 → xs ≡ []
nothing_left = nil_from_length

pub none_after : {A : Type 0} (passed left whole : List A) → left ≡ [] → passed ++ left ≡ whole → passed ≡ whole
none_after passed left whole none same = sym (append-nil passed) ∙ ap (λ l. passed ++ l) (sym none) ∙ same

-- What is moved and what is left make the whole, there is room for what is left, and all of it passes a test.
pub record IsMovedSoFar {A B D : Type 0} (f : A → D) (g : B → D) (test : B → Bool) (moved : Vec A Global)
    (left whole : List B) : Type 0 where
  pub made : map f moved.items ++ map g left ≡ map g whole
  pub room : vec_len moved + length left ≤ vec_capacity moved
  pub fit : list_all test left ≡ true

module _ {A B D : Type 0} {f : A → D} {g : B → D} {test : B → Bool} {moved : Vec A Global} {left whole : List B} where
  -- at the start
  pub none_moved : moved.items ≡ [] → left ≡ whole → list_all test whole ≡ true
      → vec_len moved + length whole ≤ vec_capacity moved → IsMovedSoFar f g test moved left whole
  none_moved none start fit room = record {
    made = ap₂ (λ xs ys. map f xs ++ map g ys) none start;
    room = omega (arith, ap length start, room);
    fit = ap (list_all test) start ∙ fit;
  }

  -- after one step
  pub one_moved : {next : Vec A Global} {rest : List B} {y : B} (x : A) → left ≡ y ∷ rest
      → next.items ≡ moved.items ++ x ∷ [] → vec_len next ≡ vec_len moved + 1 → vec_capacity next ≡ vec_capacity moved
      → f x ≡ g y → IsMovedSoFar f g test moved left whole → IsMovedSoFar f g test next rest whole
  one_moved {next} {rest} {y} x first items len capacity equal so_far = record {
    made = mapped_next f g moved.items next.items left rest whole x y first items so_far.made equal;
    room = omega (arith, ap length first, so_far.room, len, capacity);
    fit = (and_parts (test y) (list_all test rest) (ap (list_all test) (sym first) ∙ so_far.fit)).1;
  }

  -- and where nothing is left
  pub all_moved : IsMovedSoFar f g test moved left whole → length left ≡ 0 → map f moved.items ≡ map g whole
  all_moved so_far none =
      none_after (map f moved.items) (map g left) (map g whole) (ap (map g) (nothing_left left none)) so_far.made
