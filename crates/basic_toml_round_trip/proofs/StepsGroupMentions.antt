-- Mentions below one step are one group: what stands below a step, and then mentions that go by other steps.
use Rattle.std.proofs.Common.{◌≡◌, ℕ, suc, List, [], ◌∷◌, ◌++◌, Some, None, refl, ap, sym, ◌∙◌, subst, append_assoc}
use Rattle.std.proofs.Common.{false}
use Rattle.basic_toml_value.specs.Data as d
use Rattle.basic_toml_value.specs.Data.{Data, Items, no_items, item, Members, no_members, member}
use Rattle.basic_toml_grammar.specs.Sections.{texts, Rows, no_rows, row}
use Rattle.basic_toml_grammar.specs.Steps.{Step, key, number, Path, step_eq, steps_of}
use Rattle.basic_toml_grammar.specs.Tree.{Mention, value_here, goes_by, group, others, Groups, no_groups, group_of}
use Rattle.basic_toml_grammar.specs.Tree.{members_among, items_among, made_of, IsTree, AreGroups, no_steps, step}
use Rattle.basic_toml_grammar.specs.Mentions.{finished, row_mentions, section_mentions}
use Rattle.basic_toml_grammar.specs.Placed.{Placed, path_of}
use Rattle.basic_toml_grammar.proofs.Clash.StepTestsDecide.{step_same}
use Rattle.basic_toml_grammar.proofs.Trees.EnteringGrows.{placed_mentions}
use Rattle.basic_toml_round_trip.proofs.SectionsOfTable.{below}

-- mentions one step further down
abbrev pub after : Step → List Mention → List Mention
after s [] = []
after s (m ∷ ms) = record { path = s ∷ m.path; value = m.value } ∷ after s ms

after-append : (s : Step) (ms ns : List Mention) → after s (ms ++ ns) ≡ after s ms ++ after s ns
after-append s [] ns = refl
after-append s (m ∷ ms) ns = ap (λ l. record { path = s ∷ m.path; value = m.value } ∷ l) (after-append s ms ns)

-- what is placed one step further down mentions the same there
rows_after : (s : Step) (p : Path) (rs : Rows) → row_mentions (s ∷ p) rs ≡ after s (row_mentions p rs)
rows_after s p no_rows = refl
rows_after s p (row keys at v rs) =
    ap (λ l. record { path = s ∷ (p ++ steps_of (texts keys)); value = Some (finished v) } ∷ l) (rows_after s p rs)

below_mentions : (s : Step) (ls : List Placed) → placed_mentions (below s ls) ≡ after s (placed_mentions ls)
below_mentions s [] = refl
below_mentions s (l ∷ ls) =
    ap (λ ms. section_mentions (s ∷ path_of l) l.rows ++ ms) (below_mentions s ls)
    ∙ ap (λ ms. record { path = s ∷ path_of l; value = None } ∷ (ms ++ after s (placed_mentions ls)))
    (rows_after s (path_of l) l.rows)
    ∙ sym (after-append s (section_mentions (path_of l) l.rows) (placed_mentions ls))

mentions-append : (ls os : List Placed) → placed_mentions (ls ++ os) ≡ placed_mentions ls ++ placed_mentions os
mentions-append [] os = refl
mentions-append (l ∷ ls) os =
    ap (λ ms. section_mentions (path_of l) l.rows ++ ms) (mentions-append ls os)
    ∙ sym (append_assoc (section_mentions (path_of l) l.rows) (placed_mentions ls) (placed_mentions os))

pub below_first : (s : Step) (ls os : List Placed)
    → placed_mentions (below s ls ++ os) ≡ after s (placed_mentions ls) ++ placed_mentions os
below_first s ls os = mentions-append (below s ls) os ∙ ap (λ ms. ms ++ placed_mentions os) (below_mentions s ls)

-- none of them goes by this step
abbrev pub AllOff : Step → List Mention → Type 0
AllOff s [] = Unit {0}
AllOff s (m ∷ ms) = (goes_by s m.path ≡ false) × AllOff s ms

pub off_after : (s t : Step) (ms ns : List Mention) → step_eq s t ≡ false → AllOff s ns → AllOff s (after t ms ++ ns)
off_after s t [] ns e f = f
off_after s t (m ∷ ms) ns e f = (e, off_after s t ms ns e f)

group_off : (s : Step) (ms : List Mention) → AllOff s ms → group s ms ≡ []
group_off s [] f = refl
group_off s (m ∷ ms) f = rw f.0 (group_off s ms f.1)

others_off : (s : Step) (ms : List Mention) → AllOff s ms → others s ms ≡ ms
others_off s [] f = refl
others_off s (m ∷ ms) f = rw f.0 (ap (λ l. m ∷ l) (others_off s ms f.1))

group_after : (s : Step) (ms ns : List Mention) → AllOff s ns → group s (after s ms ++ ns) ≡ ms
group_after s [] ns f = group_off s ns f
group_after s (m ∷ ms) ns f = rw (step_same s) (ap (λ l. m ∷ l) (group_after s ms ns f))

others_after : (s : Step) (ms ns : List Mention) → AllOff s ns → others s (after s ms ++ ns) ≡ ns
others_after s [] ns f = others_off s ns f
others_after s (m ∷ ms) ns f = rw (step_same s) (others_after s ms ns f)

pub value_after : (s : Step) (ms ns : List Mention) → value_here (after s ms ++ ns) ≡ value_here ns
value_after s [] ns = refl
value_after s (m ∷ ms) ns = value_after s ms ns

-- there is a mention
pub data Filled : List Mention → Type 0 where
  filled : {m : Mention} {ms : List Mention} → Filled (m ∷ ms)

pub filled_after : (s : Step) {ms : List Mention} (ns : List Mention) → Filled ms → Filled (after s ms ++ ns)
filled_after s ns filled = filled

pub one_group : (s : Step) {ms : List Mention} (ns : List Mention) {x : Data} {groups : Groups} → Filled ms
    → IsTree ms x → AllOff s ns → AreGroups ns groups
    → AreGroups (after s ms ++ ns) (group_of s x groups)
one_group s ns {x = x} {groups = groups} (filled {m = m} {ms = ms}) tree off rest =
    step refl (subst (λ l. IsTree l x) (sym (group_after s (m ∷ ms) ns off)) tree)
    (subst (λ l. AreGroups l groups) (sym (others_after s (m ∷ ms) ns off)) rest)

-- that a table stands here changes no group
abbrev pub table_here : Mention
table_here = record { path = []; value = None }

pub groups_here : {ms : List Mention} {groups : Groups} → AreGroups ms groups → AreGroups (table_here ∷ ms) groups
groups_here (no_steps e) = no_steps e
groups_here (step e tree rest) = step e tree (groups_here rest)

-- the groups of members, and of elements by their numbers
abbrev pub groups_of : Members → Groups
groups_of no_members = no_groups
groups_of (member k x ms) = group_of (key k) x (groups_of ms)

members_same : (ms : Members) → members_among (groups_of ms) ≡ ms
members_same no_members = refl
members_same (member k x ms) = ap (member k x) (members_same ms)

pub table_made : (ms : Members) → made_of (groups_of ms) ≡ d.table ms
table_made no_members = refl
table_made (member k x ms) = ap (λ ms. d.table (member k x ms)) (members_same ms)

abbrev pub groups_from : ℕ → Items → Groups
groups_from i no_items = no_groups
groups_from i (item x xs) = group_of (number i) x (groups_from (suc i) xs)

items_same : (i : ℕ) (xs : Items) → items_among (groups_from i xs) ≡ xs
items_same i no_items = refl
items_same i (item x xs) = ap (item x) (items_same (suc i) xs)

pub array_made : (i : ℕ) (x : Data) (xs : Items) → made_of (groups_from i (item x xs)) ≡ d.array (item x xs)
array_made i x xs = ap (λ xs. d.array (item x xs)) (items_same (suc i) xs)
