-- A reading that goes on from what it finds: what it finds then, and what is missing.
use Rattle.basic_toml_read.proofs.Common.{◌≡◌, ℕ, refl, ap, sym, ◌∙◌, subst, Option, Some, None, arith, Text, and_then}
use Rattle.basic_toml_read.proofs.Common.{if_found, Why, Memory, Deep, Misses, then_some}

-- to go on from the same finding, or to take another way where nothing is found
pub then_from : {A B : Type 0} {o o' : Option A} (f : A → Option B) → o ≡ o' → and_then o f ≡ and_then o' f
then_from f e = ap (λ o. and_then o f) e

pub found_from : {A B : Type 0} {o o' : Option A} (f : A → Option B) (other : Option B) → o ≡ o'
    → if_found o f other ≡ if_found o' f other
found_from f other e = ap (λ o. if_found o f other) e

-- two ways to go on from the same finding
pub then_alike : {A B : Type 0} (o : Option A) (f g : A → Option B) → ((x : A) → o ≡ Some x → f x ≡ g x)
    → and_then o f ≡ and_then o g
then_alike None f g h = refl
then_alike (Some x) f g h = h x refl

pub found_alike : {A B : Type 0} (o : Option A) (f g : A → Option B) (p q : Option B)
    → ((x : A) → o ≡ Some x → f x ≡ g x) → (o ≡ None → p ≡ q) → if_found o f p ≡ if_found o g q
found_alike None f g p q h k = k refl
found_alike (Some x) f g p q h k = h x refl

-- what finds the same
pub same_found : {A : Type 0} (o o' : Option A) → ((x : A) → o ≡ Some x → o' ≡ Some x)
    → ((x : A) → o' ≡ Some x → o ≡ Some x) → o ≡ o'
same_found (Some x) o' f g = sym (f x refl)
same_found None (Some x) f g = g x refl
same_found None None f g = refl

-- a stop of one thing is one of what begins with it
pub misses_then : {A B : Type 0} (w : Why) (o : Option A) (o' : Option B) (P : A → Type 0) (Q : B → Type 0)
    → (o ≡ None → o' ≡ None) → ((y : B) → o' ≡ Some y → (x : A) × (o ≡ Some x) × (P x → Q y)) → Misses w o P
    → Misses w o' Q
misses_then Memory o o' P Q n d m = tt
misses_then Deep o o' P Q n d m = λ y e. let (x, x_is, f) = d y e in f (m x x_is)
misses_then _ o o' P Q n d m = n m

-- so too where it goes on from what is found
pub misses_on : {A B : Type 0} {whole : Option B} (w : Why) (o : Option A) (on : A → Option B) (P : A → Type 0)
    (Q : B → Type 0) → whole ≡ and_then o on → ((x : A) (y : B) → on x ≡ Some y → P x → Q y) → Misses w o P
    → Misses w whole Q
misses_on {whole = whole} w o on P Q same high m =
    misses_then w o whole P Q (λ e. same ∙ then_from on e)
    (λ y e. let (x, x_is, f) = then_some o on y (sym same ∙ e) in (x, x_is, high x y f)) m

-- what is not found is missing, for whatever reason
pub misses_none : {A : Type 0} (w : Why) (o : Option A) (P : A → Type 0) → o ≡ None → Misses w o P
misses_none Memory o P e = tt
misses_none Deep o P e = λ x f. let z : None ≡ Some x = sym e ∙ f in cc
misses_none _ o P e = e

-- what is found, joined to what comes before it
unfoldable pub after : {A : Type 0} → (A → A) → Option (A × Text) → Option (A × Text)
after join o = and_then o (λ r. Some (join r.0, r.1))

pub after_from : {A : Type 0} {o o' : Option (A × Text)} (join : A → A) → o ≡ o' → after join o ≡ after join o'
after_from join e = ap (after join) e

pub after_none : {A : Type 0} (o : Option (A × Text)) → o ≡ after (λ x. x) o
unfolding after
after_none None = refl
after_none (Some r) = refl

-- one thing comes before the rest
pub after_one : {A : Type 0} (join one all : A → A) (o : Option (A × Text)) → ((x : A) → join (one x) ≡ all x)
    → after join (and_then o (λ r. Some (one r.0, r.1))) ≡ after all o
unfolding after
after_one join one all None h = refl
after_one join one all (Some r) h = ap (λ x. Some (x, r.1)) (h r.0)

-- what is missing after other things is missing from them on
pub misses_after : {A B : Type 0} {whole : Option (A × Text)} (w : Why) (join : A → A) (o : Option B)
    (on : B → Option (A × Text)) (P : B → Type 0) (High : A → Type 0) → whole ≡ after join (and_then o on)
    → ((x : B) (y : A × Text) → on x ≡ Some y → P x → High (join y.0)) → Misses w o P → Misses w whole (λ r. High r.0)
unfolding after
misses_after w join o on P High same high m =
    misses_on w (and_then o on) _ (λ r. High (join r.0)) _ same
    (λ r y e h. let joined : join r.0 ≡ y.0 = cc in subst High joined h) (misses_on w o on P _ refl high m)

-- one thing is the first of those that are found, whether more follow it or none
pub first_of : {A : Type 0} (o o' : Option (ℕ × Text)) (more : ℕ × Text → Option (A × Text)) (one : A → A) (none : A)
    (r : A × Text) → if_found o (λ s. and_then (more s) (λ r. Some (one r.0, r.1)))
    (and_then o' (λ s. Some (one none, s.1))) ≡ Some r
    → (others : A) × (one others ≡ r.0)
first_of (Some s) o' more one none r e = let (q, q_is, same) = then_some (more s) _ r e in (q.0, cc)
first_of None o' more one none r e = (none, grind (arith, e))
