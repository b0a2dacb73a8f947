-- No tree is deeper than its deepest mention, or than an empty table where nothing is mentioned.
use Rattle.std.proofs.Common.{◌≡◌, ◌⊎◌, inl, inr, ℕ, suc, ◌+◌, ◌-◌, ◌≤◌, Bool, true, false, cond, List, [], ◌∷◌}
use Rattle.std.proofs.Common.{length, refl, sym, subst, arith, Option, Some, None}
use Rattle.std.specs.Prelude.{max}
use Rattle.std.specs.Option.{option_or}
use Rattle.basic_toml_value.specs.Data.{Data}
use Rattle.basic_toml_grammar.specs.Steps.{Step, key, number, Path, step_eq}
use Rattle.basic_toml_grammar.specs.Tree.{Mention, value_at_end, value_here, first_step, goes_by, after_step, group}
use Rattle.basic_toml_grammar.specs.Tree.{others, Groups, no_groups, group_of, members_among, items_among, made_of}
use Rattle.basic_toml_grammar.specs.Tree.{IsTree, here, grouped, AreGroups, no_steps, step}
use Rattle.basic_toml_grammar.specs.Depth.{depth, depth_of_items, depth_of_members}
use Rattle.basic_toml_grammar.proofs.AmongElements.{Among, first, next}
use Rattle.basic_toml_grammar.proofs.Clash.StepTestsDecide.{step_same}
use Rattle.basic_toml_grammar.proofs.Nesting.TreeIsAsDeepAsMentions.{mention, end_depth, value_from, group_among}
use Rattle.basic_toml_grammar.proofs.Nesting.TreeIsAsDeepAsMentions.{first_among}

-- each mention is at most so deep; and each that goes on by a step, after it
abbrev pub MentionsWithin : ℕ → List Mention → Type 0
MentionsWithin n ms = (m : Mention) → Among m ms → length m.path + end_depth m.value ≤ n

abbrev StepsWithin : ℕ → List Mention → Type 0
StepsWithin n ms = (s : Step) (p : Path) (v : Option Data) → Among (mention (s ∷ p) v) ms → length p + end_depth v ≤ n

pub among_head : {A : Type 0} {x y : A} {xs : List A} → Among x (y ∷ xs) → (x ≡ y) ⊎ Among x xs
among_head first = inl refl
among_head (next a) = inr a

-- the mentions of a group, and of the others
among_group : (t : Step) (ms : List Mention) (m : Mention) → Among m (group t ms)
    → (s : Step) × Among (mention (s ∷ m.path) m.value) ms
among_group t [] m a = elim a [ ]
among_group t (n ∷ ms) m a = go n.path (among_group t ms m) a
  where
    go : (q : Path) → (Among m (group t ms) → (s : Step) × Among (mention (s ∷ m.path) m.value) ms)
        → Among m (cond (goes_by t q) (mention (after_step q) n.value ∷ group t ms) (group t ms))
        → (s : Step) × Among (mention (s ∷ m.path) m.value) (mention q n.value ∷ ms)
    go [] ih a = let (s, b) = ih a in (s, next b)
    go (u ∷ q) ih a = by (step_eq t u) a
      where
        this : (m ≡ mention q n.value) ⊎ Among m (group t ms)
            → (s : Step) × Among (mention (s ∷ m.path) m.value) (mention (u ∷ q) n.value ∷ ms)
        this (inl e) = (
          u,
          subst (λ (m : Mention). Among (mention (u ∷ m.path) m.value) (mention (u ∷ q) n.value ∷ ms)) (sym e)
              first,
        )
        this (inr b) = let (s, c) = ih b in (s, next c)

        by : (b : Bool) → Among m (cond b (mention q n.value ∷ group t ms) (group t ms))
            → (s : Step) × Among (mention (s ∷ m.path) m.value) (mention (u ∷ q) n.value ∷ ms)
        by true a = this (among_head a)
        by false a = this (inr a)

among_others : (t : Step) (ms : List Mention) (m : Mention) → Among m (others t ms) → Among m ms
among_others t [] m a = elim a [ ]
among_others t (n ∷ ms) m a = go (goes_by t n.path) (among_others t ms m) a
  where
    this : (Among m (others t ms) → Among m ms) → (m ≡ n) ⊎ Among m (others t ms) → Among m (n ∷ ms)
    this ih (inl e) = subst (λ m. Among m (n ∷ ms)) (sym e) first
    this ih (inr b) = next (ih b)

    go : (b : Bool) → (Among m (others t ms) → Among m ms) → Among m (cond b (others t ms) (n ∷ others t ms))
        → Among m (n ∷ ms)
    go true ih a = next (ih a)
    go false ih a = this ih (among_head a)

-- a value at the end of a path is found
or_none : (a b : Option Data) → option_or a b ≡ None → b ≡ None
or_none None b e = e
or_none (Some x) b e = cc

value_missed : {v : Data} {ms : List Mention} → Among (mention [] (Some v)) ms → value_here ms ≡ None → ⊥
value_missed first e = cc
value_missed (next {y = n} {xs = ms} a) e =
    value_missed a (or_none (value_at_end n.path n.value) (value_here ms) e)

-- a table or an array is as deep as its groups
abbrev highest_group : Groups → ℕ
highest_group no_groups = 0
highest_group (group_of s d groups) = max (depth d) (highest_group groups)

members_within : (groups : Groups) → depth_of_members (members_among groups) ≤ highest_group groups
members_within no_groups = omega arith
members_within (group_of (key k) d groups) = omega (arith, members_within groups)
members_within (group_of (number n) d groups) = omega (arith, members_within groups)

items_within : (groups : Groups) → depth_of_items (items_among groups) ≤ highest_group groups
items_within no_groups = omega arith
items_within (group_of (key k) d groups) = omega (arith, items_within groups)
items_within (group_of (number n) d groups) = omega (arith, items_within groups)

made_within : (groups : Groups) → depth (made_of groups) ≤ suc (highest_group groups)
made_within no_groups = omega arith
made_within (group_of (key k) d groups) = omega (arith, members_within groups)
made_within (group_of (number n) d groups) = omega (arith, items_within groups)

-- what goes on by a step leaves a group with a value, or with something deep
some_depth : (n : ℕ) (t : Step) (ms : List Mention) → first_step ms ≡ Some t → StepsWithin n ms
    → value_here (group t ms) ≡ None → 1 ≤ n
some_depth n t ms e h f =
    let (q, w, a) = first_among ms t e in
    go q w (group_among t t q w (step_same t) a) (h t q w a)
  where
    go : (q : Path) (w : Option Data) → Among (mention q w) (group t ms) → length q + end_depth w ≤ n → 1 ≤ n
    go (s ∷ q) w a h = omega arith
    go [] None a h = omega arith
    go [] (Some x) a h = absurd (value_missed a f)

mutual
  pub no_deeper : {ms : List Mention} {d : Data} (n : ℕ) → IsTree ms d → MentionsWithin n ms
      → (value_here ms ≡ None → 1 ≤ n) → depth d ≤ n
  no_deeper n (here {ms = ms} {d = d} e) h f =
      let deep : 0 + depth d ≤ n = h (mention [] (Some d)) (value_from ms d e) in
      omega arith
  no_deeper n (grouped {ms = ms} {groups = groups} e all) h f =
      let one : 1 ≤ n = f e in
      let below : highest_group groups ≤ n - 1 =
      groups_no_deeper (n - 1) all (λ s p v a. let deep : suc (length p) + end_depth v ≤ n = h (mention (s ∷ p) v) a in
      omega arith) in
      omega (arith, made_within groups)

  groups_no_deeper : {ms : List Mention} {groups : Groups} (n : ℕ) → AreGroups ms groups → StepsWithin n ms
      → highest_group groups ≤ n
  groups_no_deeper n (no_steps e) h = omega arith
  groups_no_deeper n (step {ms = ms} {s = s} {d = d} {groups = groups} e tree rest) h =
      let this : depth d ≤ n =
      no_deeper n tree (λ m a. let (t, b) = among_group s ms m a in h t m.path m.value b) (some_depth n s ms e h) in
      let others_are : highest_group groups ≤ n =
      groups_no_deeper n rest (λ t p v a. h t p v (among_others s ms (mention (t ∷ p) v) a)) in
      omega arith
