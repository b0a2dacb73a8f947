-- The tree that grows mention by mention is the tree that the grouping rule gives, and no other is.
use Rattle.std.proofs.Common.{◌≡◌, Bool, true, false, cond, List, [], ◌∷◌, Option, Some, None, refl, ap, sym, ◌∙◌}
use Rattle.std.proofs.Common.{subst}
use Rattle.std.specs.Option.{option_or}
use Rattle.basic_toml_value.specs.Data.{Data, item, member}
use Rattle.basic_toml_grammar.specs.Steps.{Step, step_eq, key, number, Path}
use Rattle.basic_toml_grammar.specs.Tree.{Mention, value_at_end, value_here, step_of, first_step, group, others}
use Rattle.basic_toml_grammar.specs.Tree.{Groups, no_groups, group_of, members_among, items_among, made_of, IsTree}
use Rattle.basic_toml_grammar.specs.Tree.{here, grouped, AreGroups, no_steps, step}
use Rattle.basic_toml_grammar.specs.Growth.{Growth, Branches, grown, no_branches, branch, nothing_grown, grow}
use Rattle.basic_toml_grammar.specs.Growth.{grow_at, grow_all, shoot, closed, closed_branches, members_of, items_of}
use Rattle.basic_toml_grammar.specs.Growth.{tree_of}
use Rattle.basic_toml_grammar.proofs.Clash.StepTestsDecide.{step_same}

abbrev mention : Path → Option Data → Mention
mention p v = record { path = p; value = v }

abbrev grown_step : Branches → Path → Option Data → Branches
grown_step bs [] v = bs
grown_step bs (s ∷ path) v = grow_at bs s path v

-- the branches after some mentions
abbrev branches_after : Branches → List Mention → Branches
branches_after bs [] = bs
branches_after bs (m ∷ ms) = branches_after (grown_step bs m.path m.value) ms

or_assoc : (a b c : Option Data) → option_or (option_or a b) c ≡ option_or a (option_or b c)
or_assoc None b c = refl
or_assoc (Some a) b c = refl

pub or_none : (a : Option Data) → option_or a None ≡ a
or_none None = refl
or_none (Some a) = refl

grow_parts : (h : Option Data) (bs : Branches) (path : Path) (value : Option Data)
    → grow (grown h bs) path value ≡ grown (option_or h (value_at_end path value)) (grown_step bs path value)
grow_parts h bs [] value = refl
grow_parts h bs (s ∷ path) value = ap (λ x. grown x (grow_at bs s path value)) (sym (or_none h))

-- growth by all mentions, in its two parts
grown_by : (h : Option Data) (bs : Branches) (ms : List Mention)
    → grow_all (grown h bs) ms ≡ grown (option_or h (value_here ms)) (branches_after bs ms)
grown_by h bs [] = ap (λ x. grown x bs) (sym (or_none h))
grown_by h bs (m ∷ ms) = ap (λ g. grow_all g ms) (grow_parts h bs m.path m.value)
    ∙ grown_by (option_or h (value_at_end m.path m.value)) (grown_step bs m.path m.value) ms
    ∙ ap (λ x. grown x (branches_after (grown_step bs m.path m.value) ms))
    (or_assoc h (value_at_end m.path m.value) (value_here ms))

takes_step : (t : Step) (g : Growth) (bs : Branches) (path : Path) (value : Option Data) (ms : List Mention)
    → ((g : Growth) (bs : Branches)
    → branches_after (branch t g bs) ms ≡ branch t (grow_all g (group t ms)) (branches_after bs (others t ms)))
    → branches_after (grown_step (branch t g bs) path value) ms
    ≡ branch t (grow_all g (group t (mention path value ∷ ms))) (branches_after bs (others t (mention path value ∷ ms)))
takes_step t g bs [] value ms ih = ih g bs
takes_step t g bs (s ∷ path) value ms ih = go (step_eq t s)
  where
    go : (b : Bool) → branches_after (cond b (branch t (grow g path value) bs) (branch t g (grow_at bs s path value)))
        ms
        ≡ branch t (grow_all g (cond b (mention path value ∷ group t ms) (group t ms)))
        (branches_after bs (cond b (others t ms) (mention (s ∷ path) value ∷ others t ms)))
    go true = ih (grow g path value) bs
    go false = ih g (grow_at bs s path value)

-- a branch that stands takes its group, and the others go past it
branch_takes : (t : Step) (ms : List Mention) (g : Growth) (bs : Branches)
    → branches_after (branch t g bs) ms ≡ branch t (grow_all g (group t ms)) (branches_after bs (others t ms))
branch_takes t [] g bs = refl
branch_takes t (m ∷ ms) g bs = takes_step t g bs m.path m.value ms (branch_takes t ms)

pub shoots : (path : Path) (value : Option Data) → shoot path value ≡ grow nothing_grown path value
shoots [] value = refl
shoots (s ∷ path) value = refl

-- the group of a first step, and then the others by the same rule
first_group : (s : Step) (path : Path) (value : Option Data) (ms : List Mention)
    → branches_after no_branches (mention (s ∷ path) value ∷ ms)
    ≡ branch s (grow_all nothing_grown (group s (mention (s ∷ path) value ∷ ms)))
    (branches_after no_branches (others s (mention (s ∷ path) value ∷ ms)))
first_group s path value ms = branch_takes s ms (shoot path value) no_branches ∙ go (step_eq s s) (step_same s)
  where
    go : (b : Bool) → b ≡ true
        → branch s (grow_all (shoot path value) (group s ms)) (branches_after no_branches (others s ms))
        ≡ branch s (grow_all nothing_grown (cond b (mention path value ∷ group s ms) (group s ms)))
        (branches_after no_branches (cond b (others s ms) (mention (s ∷ path) value ∷ others s ms)))
    go true e = ap (λ g. branch s (grow_all g (group s ms)) (branches_after no_branches (others s ms)))
        (shoots path value)
    go false e = cc

-- no step makes no branch, and the first step the first branch
without_steps : (ms : List Mention) → first_step ms ≡ None → branches_after no_branches ms ≡ no_branches
without_steps [] e = refl
without_steps (m ∷ ms) e = go m.path (without_steps ms) e
  where
    go : (path : Path) → (first_step ms ≡ None → branches_after no_branches ms ≡ no_branches)
        → option_or (step_of path) (first_step ms) ≡ None
        → branches_after (grown_step no_branches path m.value) ms ≡ no_branches
    go [] ih e = ih e
    go (s ∷ path) ih e = cc

abbrev Splits : List Mention → Step → Type 0
Splits ms s = branches_after no_branches ms
    ≡ branch s (grow_all nothing_grown (group s ms)) (branches_after no_branches (others s ms))

with_step : (ms : List Mention) (s : Step) → first_step ms ≡ Some s → Splits ms s
with_step [] s e = cc
with_step (m ∷ ms) s e = go m.path (with_step ms s) e
  where
    go : (path : Path) → (first_step ms ≡ Some s → Splits ms s) → option_or (step_of path) (first_step ms) ≡ Some s
        → Splits (mention path m.value ∷ ms) s
    go [] ih e = ih e
    go (t ∷ path) ih e = let same : t ≡ s = cc in
        subst (λ s. Splits (mention (t ∷ path) m.value ∷ ms) s) same (first_group t path m.value ms)

-- branches as groups
abbrev groups_of : Branches → Groups
groups_of no_branches = no_groups
groups_of (branch s g bs) = group_of s (closed g) (groups_of bs)

members_are : (bs : Branches) → members_of bs ≡ members_among (groups_of bs)
members_are no_branches = refl
members_are (branch (key k) g bs) = ap (λ ms. member k (closed g) ms) (members_are bs)
members_are (branch (number n) g bs) = members_are bs

items_are : (bs : Branches) → items_of bs ≡ items_among (groups_of bs)
items_are no_branches = refl
items_are (branch (key k) g bs) = items_are bs
items_are (branch (number n) g bs) = ap (λ is. item (closed g) is) (items_are bs)

made : (bs : Branches) → made_of (groups_of bs) ≡ closed_branches bs
made no_branches = refl
made (branch (key k) g bs) = ap (λ ms. Data.table (member k (closed g) ms)) (sym (members_are bs))
made (branch (number n) g bs) = ap (λ is. Data.array (item (closed g) is)) (sym (items_are bs))

-- the step that a first branch goes by
first_by : (ms : List Mention) (t : Step) (g : Growth) (bs : Branches) → branches_after no_branches ms ≡ branch t g bs
    → (first_step ms ≡ Some t) × (grow_all nothing_grown (group t ms) ≡ g)
    × (branches_after no_branches (others t ms) ≡ bs)
first_by ms t g bs e = go (first_step ms) refl
  where
    go : (o : Option Step) → first_step ms ≡ o → (first_step ms ≡ Some t) × (grow_all nothing_grown (group t ms) ≡ g)
        × (branches_after no_branches (others t ms) ≡ bs)
    go None f = let h : branches_after no_branches ms ≡ no_branches = without_steps ms f in cc
    go (Some s) f =
        let h : branch s (grow_all nothing_grown (group s ms)) (branches_after no_branches (others s ms))
        ≡ branch t g bs = sym (with_step ms s f) ∙ e in
        let same : s ≡ t = cc in
        let one : grow_all nothing_grown (group s ms) ≡ g = cc in
        let rest : branches_after no_branches (others s ms) ≡ bs = cc in (
          f ∙ ap (λ s. Some s) same,
          subst (λ s. grow_all nothing_grown (group s ms) ≡ g) same one,
          subst (λ s. branches_after no_branches (others s ms) ≡ bs) same rest,
        )

no_first : (ms : List Mention) → branches_after no_branches ms ≡ no_branches → first_step ms ≡ None
no_first ms e = go (first_step ms) refl
  where
    go : (o : Option Step) → first_step ms ≡ o → first_step ms ≡ None
    go None f = f
    go (Some s) f = let h : branches_after no_branches ms
        ≡ branch s (grow_all nothing_grown (group s ms)) (branches_after no_branches (others s ms)) =
        with_step ms s f in cc

-- what has grown is grouped
mutual
  tree_grown : (g : Growth) (ms : List Mention) → grow_all nothing_grown ms ≡ g → IsTree ms (closed g)
  tree_grown (grown (Some v) bs) ms e =
      let h : grown (value_here ms) (branches_after no_branches ms) ≡ grown (Some v) bs =
      sym (grown_by None no_branches ms) ∙ e in here cc
  tree_grown (grown None bs) ms e =
      let h : grown (value_here ms) (branches_after no_branches ms) ≡ grown None bs =
      sym (grown_by None no_branches ms) ∙ e in
      let b : branches_after no_branches ms ≡ bs = cc in
      let none : value_here ms ≡ None = cc in
      subst (λ d. IsTree ms d) (made bs) (grouped none (groups_grown bs ms b))

  groups_grown : (bs : Branches) (ms : List Mention) → branches_after no_branches ms ≡ bs → AreGroups ms (groups_of bs)
  groups_grown no_branches ms e = no_steps (no_first ms e)
  groups_grown (branch t g bs) ms e =
      let r : (first_step ms ≡ Some t) × (grow_all nothing_grown (group t ms) ≡ g)
      × (branches_after no_branches (others t ms) ≡ bs) = first_by ms t g bs e in
      step r.0 (tree_grown g (group t ms) r.1) (groups_grown bs (others t ms) r.2)

-- and what is grouped has grown
mutual
  grouped_tree : {ms : List Mention} {d : Data} → IsTree ms d → d ≡ tree_of ms
  grouped_tree {ms = ms} {d = d} (here e) =
      ap closed (sym (grown_by None no_branches ms ∙ ap (λ h. grown h (branches_after no_branches ms)) e))
  grouped_tree {ms = ms} (grouped e gs) =
      ap made_of (grouped_groups gs) ∙ made (branches_after no_branches ms)
      ∙ ap closed (sym (grown_by None no_branches ms ∙ ap (λ h. grown h (branches_after no_branches ms)) e))

  grouped_groups : {ms : List Mention} {groups : Groups} → AreGroups ms groups
      → groups ≡ groups_of (branches_after no_branches ms)
  grouped_groups {ms = ms} (no_steps e) = ap groups_of (sym (without_steps ms e))
  grouped_groups {ms = ms} (step {s = s} {d = d} {groups = groups} e t gs) =
      ap (λ d. group_of s d groups) (grouped_tree t) ∙
      ap (λ gs. group_of s (tree_of (group s ms)) gs) (grouped_groups gs)
      ∙ ap groups_of (sym (with_step ms s e))

-- the tree of mentions is the one that the grouping rule gives
pub tree_is_grouped : (ms : List Mention) (d : Data) → (IsTree ms d → d ≡ tree_of ms) × (d ≡ tree_of ms → IsTree ms d)
tree_is_grouped ms d = (
  grouped_tree,
  λ e. subst (λ d. IsTree ms d) (sym e) (tree_grown (grow_all nothing_grown ms) ms refl),
)
