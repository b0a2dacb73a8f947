-- The trie of some marks: what stands at each of its nodes is what stands there after the marks, and its values make
-- the tree that the marks make.
use Rattle.std.proofs.Common.{◌≡◌, Bool, true, false, cond, List, [], ◌∷◌, Some, refl, ap, sym, ◌∙◌, subst}
use Rattle.std.specs.Prelude.{if◌then◌else◌}
use Rattle.std.specs.Option.{option_or}
use Rattle.basic_toml_grammar.specs.Steps.{Step, Path, step_eq, path_eq}
use Rattle.basic_toml_grammar.specs.Growth.{grown, branch, no_branches, grow, grow_at}
use Rattle.basic_toml_grammar.specs.Marks.{MarkKind, Mark}
use Rattle.basic_toml_grammar.specs.Standing.{taken, value_of, standing_at, growth_of}
use Rattle.basic_toml_grammar.specs.Trie.{Trie, trie, Tries, no_tries, by, nothing, standing, find, below, bare}
use Rattle.basic_toml_grammar.specs.Trie.{bare_tries}
use Rattle.basic_toml_grammar.proofs.Clash.StepTestsDecide.{step_same, step_is}
use Rattle.basic_toml_grammar.proofs.Trees.TreeIsGrouped.{shoots}

-- one more mark, whether it fits or not; a step that is new goes last
abbrev pub touched : Step → (Trie → Trie) → Tries → Tries
touched s f no_tries = by s (f nothing) no_tries
touched s f (by r t ts) = if step_eq r s then by r (f t) ts else by r t (touched s f ts)

abbrev pub touch : Path → MarkKind → Trie → Trie
touch [] k (trie s v ts) = trie (Some (taken k s)) (option_or v (value_of k)) ts
touch (r ∷ p) k (trie s v ts) = trie s v (touched r (λ t. touch p k t) ts)

-- marks, the latest first
abbrev pub trie_of : List Mark → Trie
trie_of [] = nothing
trie_of (m ∷ ms) = touch m.path m.kind (trie_of ms)

-- what is at a path
abbrev pub descend : Path → Trie → Trie
descend [] t = t
descend (s ∷ p) t = descend p (below s t)

found_there : (s : Step) (f : Trie → Trie) (ts : Tries) → find s (touched s f ts) ≡ f (find s ts)
found_there s f no_tries = rw (step_same s) refl
found_there s f (by r t ts) = go (step_eq r s) refl (found_there s f ts)
  where
    go : (b : Bool) → step_eq r s ≡ b → find s (touched s f ts) ≡ f (find s ts)
        → find s (cond b (by r (f t) ts) (by r t (touched s f ts))) ≡ f (cond b t (find s ts))
    go true e ih = rw e refl
    go false e ih = rw e ih

found_elsewhere : (r s : Step) (f : Trie → Trie) (ts : Tries) → step_eq r s ≡ false
    → find s (touched r f ts) ≡ find s ts
found_elsewhere r s f no_tries e = rw e refl
found_elsewhere r s f (by x t ts) e = go (step_eq x r) refl (found_elsewhere r s f ts e)
  where
    go : (b : Bool) → step_eq x r ≡ b → find s (touched r f ts) ≡ find s ts
        → find s (cond b (by x (f t) ts) (by x t (touched r f ts))) ≡ find s (by x t ts)
    go true d ih = rw (ap (λ y. step_eq y s) (step_is x r d) ∙ e) refl
    go false d ih = ap (λ u. cond (step_eq x s) t u) ih

-- what stands at a path after one more mark
standing_touched : (q p : Path) (k : MarkKind) (t : Trie) → standing (descend p (touch q k t))
    ≡ (if path_eq q p then Some (taken k (standing (descend p t))) else standing (descend p t))
standing_touched [] [] k (trie s v ts) = refl
standing_touched [] (y ∷ p) k (trie s v ts) = refl
standing_touched (x ∷ q) [] k (trie s v ts) = refl
standing_touched (x ∷ q) (y ∷ p) k (trie s v ts) = go (step_eq x y) refl (λ t. standing_touched q p k t)
  where
    after : Step → Trie
    after y = descend p (find y (touched x (λ t. touch q k t) ts))

    go : (b : Bool) → step_eq x y ≡ b
        → ((t : Trie) → standing (descend p (touch q k t))
        ≡ (if path_eq q p then Some (taken k (standing (descend p t))) else standing (descend p t)))
        → standing (after y)
        ≡ (if path_eq (x ∷ q) (y ∷ p) then Some (taken k (standing (descend p (find y ts))))
        else standing (descend p (find y ts)))
    go false e ih = rw e (ap (λ t. standing (descend p t)) (found_elsewhere x y (λ t. touch q k t) ts e))
    go true e ih = subst (λ y. standing (after y)
        ≡ (if path_eq (x ∷ q) (y ∷ p) then Some (taken k (standing (descend p (find y ts))))
        else standing (descend p (find y ts)))) (step_is x y e)
        (rw (step_same x)
        (ap (λ t. standing (descend p t)) (found_there x (λ t. touch q k t) ts) ∙ ih (find x ts)))

descend_nothing : (p : Path) → descend p nothing ≡ nothing
descend_nothing [] = refl
descend_nothing (s ∷ p) = descend_nothing p

pub standing_of : (st : List Mark) (p : Path) → standing (descend p (trie_of st)) ≡ standing_at st p
standing_of [] p = ap standing (descend_nothing p)
standing_of (m ∷ st) p = standing_touched m.path p m.kind (trie_of st)
    ∙ ap (λ o. if path_eq m.path p then Some (taken m.kind o) else o) (standing_of st p)

-- the values
bare_touched_at : (s : Step) (p : Path) (k : MarkKind)
    → ((t : Trie) → bare (touch p k t) ≡ grow (bare t) p (value_of k)) → (ts : Tries)
    → bare_tries (touched s (λ t. touch p k t) ts) ≡ grow_at (bare_tries ts) s p (value_of k)
bare_touched_at s p k h no_tries = ap (λ g. branch s g no_branches) (h nothing ∙ sym (shoots p (value_of k)))
bare_touched_at s p k h (by r t ts) = go (step_eq r s) (bare_touched_at s p k h ts)
  where
    go : (b : Bool) → bare_tries (touched s (λ t. touch p k t) ts) ≡ grow_at (bare_tries ts) s p (value_of k)
        → bare_tries (cond b (by r (touch p k t) ts) (by r t (touched s (λ t. touch p k t) ts)))
        ≡ cond b (branch r (grow (bare t) p (value_of k)) (bare_tries ts))
        (branch r (bare t) (grow_at (bare_tries ts) s p (value_of k)))
    go true ih = ap (λ g. branch r g (bare_tries ts)) (h t)
    go false ih = ap (λ bs. branch r (bare t) bs) ih

bare_touched : (p : Path) (k : MarkKind) (t : Trie) → bare (touch p k t) ≡ grow (bare t) p (value_of k)
bare_touched [] k (trie s v ts) = refl
bare_touched (r ∷ p) k (trie s v ts) = ap (λ bs. grown v bs) (bare_touched_at r p k (bare_touched p k) ts)

pub bare_of : (st : List Mark) → bare (trie_of st) ≡ growth_of st
bare_of [] = refl
bare_of (m ∷ st) = bare_touched m.path m.kind (trie_of st) ∙ ap (λ g. grow g m.path (value_of m.kind)) (bare_of st)
