-- What is among the elements of a list, and among those of two lists.
use Rattle.std.proofs.Common.{◌⊎◌, inl, inr, List, [], ◌∷◌, ◌++◌}

pub data Among {A : Type 0} : A → List A → Type 0 where
  first : {x : A} {xs : List A} → Among x (x ∷ xs)
  next : {x y : A} {xs : List A} → Among x xs → Among x (y ∷ xs)

pub among_left : {A : Type 0} {x : A} {xs : List A} (ys : List A) → Among x xs → Among x (xs ++ ys)
among_left ys first = first
among_left ys (next a) = next (among_left ys a)

pub among_right : {A : Type 0} {x : A} (xs : List A) {ys : List A} → Among x ys → Among x (xs ++ ys)
among_right [] a = a
among_right (y ∷ xs) a = next (among_right xs a)

pub among_either : {A : Type 0} {x : A} (xs ys : List A) → Among x (xs ++ ys) → Among x xs ⊎ Among x ys
among_either [] ys a = inr a
among_either (y ∷ xs) ys first = inl first
among_either {x = x} (y ∷ xs) ys (next a) = go (among_either xs ys a)
  where
    go : Among x xs ⊎ Among x ys → Among x (y ∷ xs) ⊎ Among x ys
    go (inl h) = inl (next h)
    go (inr h) = inr h
