-- A change of what is at a path of a trie: it looks at what is there alone, two changes by one path are one, and a mark
-- by a path is the mark there, where it fits. Each is so of a change that can stop.
use Rattle.std.proofs.Common.{◌≡◌, Bool, true, false, ◌++◌, Option, Some, None, refl, sym, ap, ◌∙◌}
use Rattle.std.specs.Prelude.{if◌then◌else◌, option_map}
use Rattle.basic_toml_grammar.specs.Steps.{Path}
use Rattle.basic_toml_grammar.specs.Marks.{MarkKind}
use Rattle.basic_toml_grammar.specs.Standing.{fits}
use Rattle.basic_toml_grammar.specs.Entering.{and_then}
use Rattle.basic_toml_grammar.specs.Trie.{Trie, standing, mark_here}
use Rattle.basic_toml_grammar.specs.Stops.{is_named, Outcome, goes_on, stops, and_on}
use Rattle.basic_toml_grammar.specs.TrieStops.{try_here}
use Rattle.basic_toml_grammar.proofs.Tries.MarksInATrie.{touch, descend}
use Rattle.basic_toml_grammar.proofs.Tries.StopsByPath.{try_path, path_here, path_append, path_twice, mark_or_stop}
use Rattle.basic_toml_grammar.proofs.Tries.StopsForgotten.{left_of, left_on, left_here, at_path, left_path, or_stop}
use Rattle.basic_toml_grammar.proofs.Tries.StopsForgotten.{left_stop, stop_path}

-- one step after another
pub then_map : {A B C : Type 0} (h : B → C) (f : A → Option B) (o : Option A)
    → and_then o (λ x. option_map h (f x)) ≡ option_map h (and_then o f)
then_map h f None = refl
then_map h f (Some x) = refl

pub map_then : {A B C : Type 0} (h : A → B) (f : B → Option C) (o : Option A)
    → and_then (option_map h o) f ≡ and_then o (λ x. f (h x))
map_then h f None = refl
map_then h f (Some x) = refl

pub then_then : {A B C : Type 0} (f : A → Option B) (g : B → Option C) (o : Option A)
    → and_then (and_then o f) g ≡ and_then o (λ x. and_then (f x) g)
then_then f g None = refl
then_then f g (Some x) = refl

pub then_some : {A : Type 0} (o : Option A) → and_then o (λ x. Some x) ≡ o
then_some None = refl
then_some (Some x) = refl

pub then_alike : {A B : Type 0} (f g : A → Option B) → ((x : A) → f x ≡ g x) → (o : Option A)
    → and_then o f ≡ and_then o g
then_alike f g h None = refl
then_alike f g h (Some x) = h x

-- changes that agree there
pub at_path_here : (p : Path) (f g : Trie → Option Trie) (t : Trie) → f (descend p t) ≡ g (descend p t)
    → at_path p f t ≡ at_path p g t
at_path_here p f g t e =
    stop_path p f t ∙ ap left_of (path_here p (λ t. or_stop (f t)) (λ t. or_stop (g t)) t (ap or_stop e))
    ∙ sym (stop_path p g t)

-- by a path, and on
pub at_path_append : (p q : Path) (f : Trie → Option Trie) (t : Trie)
    → at_path (p ++ q) f t ≡ at_path p (λ t. at_path q f t) t
at_path_append p q f t =
    stop_path (p ++ q) f t ∙ ap left_of (path_append p q (λ t. or_stop (f t)) t)
    ∙ left_path p (λ t. try_path q (λ t. or_stop (f t)) t) (λ t. at_path q f t) t (λ t. sym (stop_path q f t))

-- twice by one path
pub at_path_twice : (p : Path) (f g : Trie → Option Trie) (t : Trie)
    → and_then (at_path p f t) (λ t. at_path p g t) ≡ at_path p (λ t. and_then (f t) g) t
at_path_twice p f g t =
    ap (λ o. and_then o (λ t. at_path p g t)) (stop_path p f t)
    ∙ sym (left_on (λ t. try_path p tried t) (λ t. at_path p g t) (try_path p (λ t. or_stop (f t)) t)
    (λ t. sym (stop_path p g t)))
    ∙ ap left_of (path_twice p (λ t. or_stop (f t)) tried t)
    ∙ left_path p (λ t. and_on (or_stop (f t)) tried) (λ t. and_then (f t) g) t
    (λ t. left_on tried g (or_stop (f t)) (λ t. left_stop (g t)) ∙ ap (λ o. and_then o g) (left_stop (f t)))
  where
    tried : Trie → Outcome Trie
    tried t = or_stop (g t)

-- a mark, where it fits
pub mark_by : (p : Path) (k : MarkKind) (t : Trie)
    → at_path p (λ t. mark_here k t) t ≡ (if fits k (standing (descend p t)) then Some (touch p k t) else None)
mark_by p k t =
    sym (left_path p (λ t. try_here k (λ s. is_named) t) (λ t. mark_here k t) t (left_here k (λ s. is_named)))
    ∙ ap left_of (mark_or_stop p k (λ s. is_named) t) ∙ forgotten (fits k (standing (descend p t)))
  where
    forgotten : (b : Bool) → left_of (if b then goes_on (touch p k t) else stops is_named)
        ≡ (if b then Some (touch p k t) else None)
    forgotten true = refl
    forgotten false = refl
