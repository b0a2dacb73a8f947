-- An outcome whose stop is forgotten: a change of a trie that can stop is then the change that can fail, and the other
-- way round.
use Rattle.std.proofs.Common.{◌≡◌, Bool, true, false, cond, [], ◌∷◌, Option, Some, None, refl, sym, ap, ◌∙◌}
use Rattle.std.specs.Prelude.{if◌then◌else◌, option_map}
use Rattle.std.specs.Option.{option_or}
use Rattle.basic_toml_grammar.specs.Steps.{Step, Path, step_eq}
use Rattle.basic_toml_grammar.specs.Marks.{MarkKind}
use Rattle.basic_toml_grammar.specs.Standing.{Standing, fits, taken, value_of}
use Rattle.basic_toml_grammar.specs.Entering.{and_then}
use Rattle.basic_toml_grammar.specs.Trie.{Trie, trie, Tries, no_tries, by, nothing, mark_here, among, at_step}
use Rattle.basic_toml_grammar.specs.Stops.{Stop, is_named, Outcome, goes_on, stops, and_on}
use Rattle.basic_toml_grammar.specs.TrieStops.{outcome_map, try_here, try_among, try_step}
use Rattle.basic_toml_grammar.proofs.Tries.StopsByPath.{try_path}

-- what is left of an outcome where it goes on
abbrev pub left_of : {A : Type 0} → Outcome A → Option A
left_of (goes_on a) = Some a
left_of (stops x) = None

pub goes : {A : Type 0} (o : Outcome A) (a : A) → left_of o ≡ Some a → o ≡ goes_on a
goes (goes_on b) a e = ap goes_on (same e)
  where
    same : {A : Type 0} {a b : A} → Some b ≡ Some a → b ≡ a
    same e = cc
goes (stops x) a e = absurd (cc)

left_map : {A B : Type 0} (f : A → B) (o : Outcome A) → left_of (outcome_map f o) ≡ option_map f (left_of o)
left_map f (goes_on a) = refl
left_map f (stops x) = refl

pub left_on : {A B : Type 0} (f : A → Outcome B) (g : A → Option B) (o : Outcome A) → ((a : A) → left_of (f a) ≡ g a)
    → left_of (and_on o f) ≡ and_then (left_of o) g
left_on f g (goes_on a) e = e a
left_on f g (stops x) e = refl

pub left_here : (k : MarkKind) (name : Option Standing → Stop) (t : Trie) → left_of (try_here k name t) ≡ mark_here k t
left_here k name (trie s v ts) = go (fits k s)
  where
    go : (b : Bool)
        → left_of (if b then goes_on (trie (Some (taken k s)) (option_or v (value_of k)) ts) else stops (name s))
        ≡ (if b then Some (trie (Some (taken k s)) (option_or v (value_of k)) ts) else None)
    go true = refl
    go false = refl

left_among : (s : Step) (f : Trie → Outcome Trie) (g : Trie → Option Trie) (ts : Tries)
    → ((t : Trie) → left_of (f t) ≡ g t) → left_of (try_among s f ts) ≡ among s g ts
left_among s f g no_tries e =
    left_map (λ t. by s t no_tries) (f nothing) ∙ ap (λ o. option_map (λ t. by s t no_tries) o) (e nothing)
left_among s f g (by r t ts) e = go (step_eq r s) (left_among s f g ts e)
  where
    go : (b : Bool) → left_of (try_among s f ts) ≡ among s g ts
        → left_of (cond b (outcome_map (λ t. by r t ts) (f t)) (outcome_map (λ ts. by r t ts) (try_among s f ts)))
        ≡ cond b (option_map (λ t. by r t ts) (g t)) (option_map (λ ts. by r t ts) (among s g ts))
    go true h = left_map (λ t. by r t ts) (f t) ∙ ap (λ o. option_map (λ t. by r t ts) o) (e t)
    go false h = left_map (λ ts. by r t ts) (try_among s f ts) ∙ ap (λ o. option_map (λ ts. by r t ts) o) h

pub left_step : (s : Step) (f : Trie → Outcome Trie) (g : Trie → Option Trie) (t : Trie)
    → ((t : Trie) → left_of (f t) ≡ g t) → left_of (try_step s f t) ≡ at_step s g t
left_step s f g (trie st v ts) e =
    left_map (λ ts. trie st v ts) (try_among s f ts)
    ∙ ap (λ o. option_map (λ ts. trie st v ts) o) (left_among s f g ts e)

-- a change that can fail, by a path
abbrev pub at_path : Path → (Trie → Option Trie) → Trie → Option Trie
at_path [] f t = f t
at_path (s ∷ p) f t = at_step s (λ t. at_path p f t) t

pub left_path : (p : Path) (f : Trie → Outcome Trie) (g : Trie → Option Trie) (t : Trie)
    → ((t : Trie) → left_of (f t) ≡ g t) → left_of (try_path p f t) ≡ at_path p g t
left_path [] f g t e = e t
left_path (s ∷ p) f g t e = left_step s (λ t. try_path p f t) (λ t. at_path p g t) t (λ t. left_path p f g t e)

-- where it fails it stops
abbrev pub or_stop : {A : Type 0} → Option A → Outcome A
or_stop (Some a) = goes_on a
or_stop None = stops is_named

pub left_stop : {A : Type 0} (o : Option A) → left_of (or_stop o) ≡ o
left_stop (Some a) = refl
left_stop None = refl

pub stop_path : (p : Path) (f : Trie → Option Trie) (t : Trie)
    → at_path p f t ≡ left_of (try_path p (λ t. or_stop (f t)) t)
stop_path p f t = sym (left_path p (λ t. or_stop (f t)) f t (λ t. left_stop (f t)))
