-- A change at a path of a trie that can stop: it looks at what is there alone, two changes by one path are one, and a
-- mark by a path is the mark there, where it fits, or what it stops at.
use Rattle.std.proofs.Common.{◌≡◌, Bool, true, false, cond, [], ◌∷◌, ◌++◌, Option, refl, ap, ◌∙◌}
use Rattle.std.specs.Prelude.{if◌then◌else◌}
use Rattle.basic_toml_grammar.specs.Steps.{Step, Path, step_eq}
use Rattle.basic_toml_grammar.specs.Marks.{MarkKind}
use Rattle.basic_toml_grammar.specs.Standing.{Standing, fits}
use Rattle.basic_toml_grammar.specs.Trie.{Trie, trie, Tries, no_tries, by, nothing, standing, find, below}
use Rattle.basic_toml_grammar.specs.Stops.{Stop, Outcome, goes_on, stops, and_on}
use Rattle.basic_toml_grammar.specs.TrieStops.{outcome_map, try_here, try_among, try_step}
use Rattle.basic_toml_grammar.proofs.Clash.StepTestsDecide.{step_same}
use Rattle.basic_toml_grammar.proofs.Tries.MarksInATrie.{touched, touch, descend}

abbrev pub try_path : Path → (Trie → Outcome Trie) → Trie → Outcome Trie
try_path [] f t = f t
try_path (s ∷ p) f t = try_step s (λ t. try_path p f t) t

-- one step after another
on_map : {A B C : Type 0} (h : B → C) (f : A → Outcome B) (o : Outcome A)
    → and_on o (λ x. outcome_map h (f x)) ≡ outcome_map h (and_on o f)
on_map h f (stops x) = refl
on_map h f (goes_on a) = refl

map_on : {A B C : Type 0} (h : A → B) (f : B → Outcome C) (o : Outcome A)
    → and_on (outcome_map h o) f ≡ and_on o (λ x. f (h x))
map_on h f (stops x) = refl
map_on h f (goes_on a) = refl

pub on_on : {A B C : Type 0} (f : A → Outcome B) (g : B → Outcome C) (o : Outcome A)
    → and_on (and_on o f) g ≡ and_on o (λ x. and_on (f x) g)
on_on f g (stops x) = refl
on_on f g (goes_on a) = refl

pub on_goes : {A : Type 0} (o : Outcome A) → and_on o (λ x. goes_on x) ≡ o
on_goes (stops x) = refl
on_goes (goes_on a) = refl

-- changes that agree there
among_here : (s : Step) (f g : Trie → Outcome Trie) (ts : Tries) → f (find s ts) ≡ g (find s ts)
    → try_among s f ts ≡ try_among s g ts
among_here s f g no_tries e = ap (λ o. outcome_map (λ t. by s t no_tries) o) e
among_here s f g (by r t ts) e = go (step_eq r s) (among_here s f g ts) e
  where
    go : (b : Bool) → (f (find s ts) ≡ g (find s ts) → try_among s f ts ≡ try_among s g ts)
        → f (cond b t (find s ts)) ≡ g (cond b t (find s ts))
        → cond b (outcome_map (λ t. by r t ts) (f t)) (outcome_map (λ ts. by r t ts) (try_among s f ts))
        ≡ cond b (outcome_map (λ t. by r t ts) (g t)) (outcome_map (λ ts. by r t ts) (try_among s g ts))
    go true ih e = ap (λ o. outcome_map (λ t. by r t ts) o) e
    go false ih e = ap (λ o. outcome_map (λ ts. by r t ts) o) (ih e)

step_here : (s : Step) (f g : Trie → Outcome Trie) (t : Trie) → f (below s t) ≡ g (below s t)
    → try_step s f t ≡ try_step s g t
step_here s f g (trie st v ts) e = ap (λ o. outcome_map (λ ts. trie st v ts) o) (among_here s f g ts e)

pub path_here : (p : Path) (f g : Trie → Outcome Trie) (t : Trie) → f (descend p t) ≡ g (descend p t)
    → try_path p f t ≡ try_path p g t
path_here [] f g t e = e
path_here (s ∷ p) f g t e =
    step_here s (λ t. try_path p f t) (λ t. try_path p g t) t (path_here p f g (below s t) e)

-- by a path, and on
pub path_append : (p q : Path) (f : Trie → Outcome Trie) (t : Trie)
    → try_path (p ++ q) f t ≡ try_path p (λ t. try_path q f t) t
path_append [] q f t = refl
path_append (s ∷ p) q f t =
    step_here s (λ t. try_path (p ++ q) f t) (λ t. try_path p (λ t. try_path q f t) t) t
    (path_append p q f (below s t))

-- twice by one path
among_twice : (s : Step) (f g : Trie → Outcome Trie) (ts : Tries)
    → and_on (try_among s f ts) (λ ts. try_among s g ts) ≡ try_among s (λ t. and_on (f t) g) ts
among_twice s f g no_tries = go (f nothing)
  where
    go : (o : Outcome Trie) → and_on (outcome_map (λ t. by s t no_tries) o) (λ ts. try_among s g ts)
        ≡ outcome_map (λ t. by s t no_tries) (and_on o g)
    go (stops x) = refl
    go (goes_on t) = rw (step_same s) refl
among_twice s f g (by r t ts) = go (step_eq r s) refl (among_twice s f g ts)
  where
    there : step_eq r s ≡ true → (o : Outcome Trie)
        → and_on (outcome_map (λ t. by r t ts) o) (λ ts. try_among s g ts)
        ≡ outcome_map (λ t. by r t ts) (and_on o g)
    there e (stops x) = refl
    there e (goes_on t) = rw e refl

    further : step_eq r s ≡ false → (o : Outcome Tries)
        → and_on (outcome_map (λ ts. by r t ts) o) (λ ts. try_among s g ts)
        ≡ outcome_map (λ ts. by r t ts) (and_on o (λ ts. try_among s g ts))
    further e (stops x) = refl
    further e (goes_on ts) = rw e refl

    go : (b : Bool) → step_eq r s ≡ b
        → and_on (try_among s f ts) (λ ts. try_among s g ts) ≡ try_among s (λ t. and_on (f t) g) ts
        → and_on (cond b (outcome_map (λ t. by r t ts) (f t)) (outcome_map (λ ts. by r t ts) (try_among s f ts)))
        (λ ts. try_among s g ts)
        ≡ cond b (outcome_map (λ t. by r t ts) (and_on (f t) g))
        (outcome_map (λ ts. by r t ts) (try_among s (λ t. and_on (f t) g) ts))
    go true e ih = there e (f t)
    go false e ih = further e (try_among s f ts) ∙ ap (λ o. outcome_map (λ ts. by r t ts) o) ih

step_twice : (s : Step) (f g : Trie → Outcome Trie) (t : Trie)
    → and_on (try_step s f t) (λ t. try_step s g t) ≡ try_step s (λ t. and_on (f t) g) t
step_twice s f g (trie st v ts) =
    map_on (λ ts. trie st v ts) (λ t. try_step s g t) (try_among s f ts)
    ∙ on_map (λ ts. trie st v ts) (λ ts. try_among s g ts) (try_among s f ts)
    ∙ ap (λ o. outcome_map (λ ts. trie st v ts) o) (among_twice s f g ts)

pub path_twice : (p : Path) (f g : Trie → Outcome Trie) (t : Trie)
    → and_on (try_path p f t) (λ t. try_path p g t) ≡ try_path p (λ t. and_on (f t) g) t
path_twice [] f g t = refl
path_twice (s ∷ p) f g t =
    step_twice s (λ t. try_path p f t) (λ t. try_path p g t) t
    ∙ step_here s (λ t. and_on (try_path p f t) (λ t. try_path p g t)) (λ t. try_path p (λ t. and_on (f t) g) t) t
    (path_twice p f g (below s t))

-- a stop stops
among_stop : (s : Step) (x : Stop) (ts : Tries) → try_among s (λ t. stops x) ts ≡ stops x
among_stop s x no_tries = refl
among_stop s x (by r t ts) = go (step_eq r s) (among_stop s x ts)
  where
    go : (b : Bool) → try_among s (λ t. stops x) ts ≡ stops x
        → cond b (outcome_map (λ t. by r t ts) (stops x))
        (outcome_map (λ ts. by r t ts) (try_among s (λ t. stops x) ts)) ≡ stops x
    go true ih = refl
    go false ih = ap (λ o. outcome_map (λ ts. by r t ts) o) ih

pub path_stop : (p : Path) (x : Stop) (t : Trie) → try_path p (λ t. stops x) t ≡ stops x
path_stop [] x t = refl
path_stop (s ∷ p) x (trie st v ts) = ap (λ o. outcome_map (λ ts. trie st v ts) o)
    (among_here s (λ t. try_path p (λ t. stops x) t) (λ t. stops x) ts (path_stop p x (find s ts)) ∙ among_stop s x ts)

-- a mark, where it fits
among_goes : (s : Step) (f : Trie → Trie) (ts : Tries) → try_among s (λ t. goes_on (f t)) ts ≡ goes_on (touched s f ts)
among_goes s f no_tries = refl
among_goes s f (by r t ts) = go (step_eq r s) (among_goes s f ts)
  where
    go : (b : Bool) → try_among s (λ t. goes_on (f t)) ts ≡ goes_on (touched s f ts)
        → cond b (outcome_map (λ t. by r t ts) (goes_on (f t)))
        (outcome_map (λ ts. by r t ts) (try_among s (λ t. goes_on (f t)) ts))
        ≡ goes_on (cond b (by r (f t) ts) (by r t (touched s f ts)))
    go true ih = refl
    go false ih = ap (λ o. outcome_map (λ ts. by r t ts) o) ih

pub mark_or_stop : (p : Path) (k : MarkKind) (name : Option Standing → Stop) (t : Trie)
    → try_path p (λ t. try_here k name t) t
    ≡ (if fits k (standing (descend p t)) then goes_on (touch p k t) else stops (name (standing (descend p t))))
mark_or_stop [] k name (trie s v ts) = refl
mark_or_stop (r ∷ p) k name (trie s v ts) =
    go (fits k (standing (descend p (find r ts)))) (mark_or_stop p k name (find r ts))
  where
    off : Stop
    off = name (standing (descend p (find r ts)))

    go : (b : Bool) → try_path p (λ t. try_here k name t) (find r ts)
        ≡ cond b (goes_on (touch p k (find r ts))) (stops off)
        → try_path (r ∷ p) (λ t. try_here k name t) (trie s v ts)
        ≡ cond b (goes_on (touch (r ∷ p) k (trie s v ts))) (stops off)
    go true e = ap (λ o. outcome_map (λ ts. trie s v ts) o)
        (among_here r (λ t. try_path p (λ t. try_here k name t) t) (λ t. goes_on (touch p k t)) ts e ∙
        among_goes r (λ t. touch p k t) ts)
    go false e = ap (λ o. outcome_map (λ ts. trie s v ts) o)
        (among_here r (λ t. try_path p (λ t. try_here k name t) t) (λ t. stops off) ts e ∙ among_stop r off ts)
