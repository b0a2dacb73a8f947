-- The tests on steps and paths decide what they say.
use Rattle.std.proofs.Common.{◌≡◌, true, [], ◌∷◌, ◌++◌, refl, ap}
use Rattle.std.proofs.lemmas.Bool.{and_parts, eq-eqb, eqb-true}
use Rattle.std.proofs.lemmas.Slice.Eq.{bytes_eq-Decides}
use Rattle.basic_toml_grammar.specs.Steps.{Step, key, number, Path, step_eq, begins, path_eq}

pub step_same : (s : Step) → step_eq s s ≡ true
step_same (key k) = (bytes_eq-Decides k k).1 refl
step_same (number n) = eq-eqb n n refl

pub step_is : (s t : Step) → step_eq s t ≡ true → s ≡ t
step_is (key k) (key l) e = ap key ((bytes_eq-Decides k l).0 e)
step_is (key k) (number n) e = cc
step_is (number n) (key k) e = cc
step_is (number n) (number m) e = ap number (eqb-true n m e)

pub begins_itself : (p q : Path) → begins p (p ++ q) ≡ true
begins_itself [] q = refl
begins_itself (s ∷ p) q = rw step_same (begins_itself p q)

pub begins_same : (p : Path) → begins p p ≡ true
begins_same [] = refl
begins_same (s ∷ p) = rw step_same (begins_same p)

pub paths_same : (p : Path) → path_eq p p ≡ true
paths_same p = rw begins_same refl

pub paths_are : (p q : Path) → path_eq p q ≡ true → p ≡ q
paths_are [] [] e = refl
paths_are [] (t ∷ q) e = cc
paths_are (s ∷ p) [] e = cc
paths_are (s ∷ p) (t ∷ q) e =
    let h : (begins (s ∷ p) (t ∷ q) ≡ true) × (begins (t ∷ q) (s ∷ p) ≡ true) = and_parts _ _ e in
    let a : (step_eq s t ≡ true) × (begins p q ≡ true) = and_parts _ _ h.0 in
    let b : (step_eq t s ≡ true) × (begins q p ≡ true) = and_parts _ _ h.1 in
    let x : s ≡ t = step_is s t a.0 in
    let r : p ≡ q = paths_are p q (rw (a.1, b.1) refl) in
    cc
