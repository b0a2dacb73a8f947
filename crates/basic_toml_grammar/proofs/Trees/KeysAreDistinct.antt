-- Each table of a tree of mentions has distinct keys, where the tables of the values mentioned have.
use Rattle.std.proofs.Common.{◌≡◌, ℕ, Bool, true, false, cond, List, [], ◌∷◌, ◌++◌, Option, Some, None, refl, ap}
use Rattle.std.proofs.Common.{sym, ◌∙◌}
use Rattle.std.specs.Prelude.{◌||◌}
use Rattle.std.specs.Option.{option_or}
use Rattle.std.proofs.lemmas.Bool.{false≢true, and_from, or_from, or_parts}
use Rattle.basic_toml_value.specs.Data.{Data}
use Rattle.basic_toml_grammar.specs.Sections.{Raw, Elements, no_elements, element, Rows, no_rows, row, Section}
use Rattle.basic_toml_grammar.specs.Steps.{Step, step_eq, key, number, Path}
use Rattle.basic_toml_grammar.specs.IndexedPath.{Located, located}
use Rattle.basic_toml_grammar.specs.Tree.{Mention}
use Rattle.basic_toml_grammar.specs.Growth.{Growth, Branches, grown, no_branches, branch, nothing_grown, grow}
use Rattle.basic_toml_grammar.specs.Growth.{grow_at, grow_all, shoot, closed, closed_branches, members_of, items_of}
use Rattle.basic_toml_grammar.specs.Growth.{tree_of}
use Rattle.basic_toml_grammar.specs.Mentions.{finished, finished_elements, row_mentions, mentions}
use Rattle.basic_toml_grammar.specs.Distinct.{holds_key, is_distinct, are_items_distinct, are_members_distinct}
use Rattle.basic_toml_grammar.proofs.Clash.StepTestsDecide.{step_same, step_is}

-- a step leads on from here
abbrev leads : Step → Branches → Bool
leads s no_branches = false
leads s (branch t g bs) = step_eq t s || leads s bs

abbrev is_fine : Option Data → Bool
is_fine None = true
is_fine (Some v) = is_distinct v

-- at each path the steps are distinct, and the values are fine
mutual
  data Fine : Growth → Type 0 where
    fine : {h : Option Data} {bs : Branches} → is_fine h ≡ true → FineBranches bs → Fine (grown h bs)

  data FineBranches : Branches → Type 0 where
    no_more : FineBranches no_branches
    one_more : {s : Step} {g : Growth} {bs : Branches} → leads s bs ≡ false → Fine g → FineBranches bs
        → FineBranches (branch s g bs)

fine_shoot : (p : Path) (v : Option Data) → is_fine v ≡ true → Fine (shoot p v)
fine_shoot [] v e = fine e no_more
fine_shoot (s ∷ p) v e = fine refl (one_more refl (fine_shoot p v e) no_more)

-- a step that leads on after one more mention led on before, or is the new one
leads_more : (r s : Step) (bs : Branches) (p : Path) (v : Option Data) → leads r bs ≡ false → step_eq s r ≡ false
    → leads r (grow_at bs s p v) ≡ false
leads_more r s no_branches p v e d = rw d refl
leads_more r s (branch t g bs) p v e d = go (step_eq t s) (leads_more r s bs p v (or_parts _ _ e).1 d)
  where
    go : (b : Bool) → leads r (grow_at bs s p v) ≡ false
        → leads r (cond b (branch t (grow g p v) bs) (branch t g (grow_at bs s p v))) ≡ false
    go true ih = e
    go false ih = or_from _ _ (or_parts _ _ e).0 ih

fine_or : (h v : Option Data) → is_fine h ≡ true → is_fine v ≡ true → is_fine (option_or h v) ≡ true
fine_or None v e f = f
fine_or (Some x) v e f = e

eq_turned : (s t : Step) → step_eq t s ≡ false → step_eq s t ≡ false
eq_turned s t e = go (step_eq s t) refl
  where
    go : (b : Bool) → step_eq s t ≡ b → b ≡ false
    go false f = refl
    go true f = absurd (false≢true (sym e ∙ ap (λ x. step_eq t x) (step_is s t f) ∙ step_same t))

mutual
  fine_grow : {g : Growth} (p : Path) (v : Option Data) → is_fine v ≡ true → Fine g → Fine (grow g p v)
  fine_grow [] v e (fine {h = h} f bs) = fine (fine_or h v f e) bs
  fine_grow (s ∷ p) v e (fine f bs) = fine f (fine_grow_at s p v e bs)

  fine_grow_at : {bs : Branches} (s : Step) (p : Path) (v : Option Data) → is_fine v ≡ true → FineBranches bs
      → FineBranches (grow_at bs s p v)
  fine_grow_at s p v e no_more = one_more refl (fine_shoot p v e) no_more
  fine_grow_at s p v e (one_more {s = t} {g = g} {bs = bs} l f more) =
      go (step_eq t s) refl (fine_grow p v e f) (fine_grow_at s p v e more)
    where
      go : (b : Bool) → step_eq t s ≡ b → Fine (grow g p v) → FineBranches (grow_at bs s p v)
          → FineBranches (cond b (branch t (grow g p v) bs) (branch t g (grow_at bs s p v)))
      go true d f' rest = one_more l f' more
      go false d f' rest = one_more (leads_more t s bs p v l (eq_turned s t d)) f rest

data AllFine : List Mention → Type 0 where
  none : AllFine []
  also : {m : Mention} {ms : List Mention} → is_fine m.value ≡ true → AllFine ms → AllFine (m ∷ ms)

fine_all : {ms : List Mention} (g : Growth) → Fine g → AllFine ms → Fine (grow_all g ms)
fine_all g f none = f
fine_all g f (also {m = m} e fs) = fine_all (grow g m.path m.value) (fine_grow m.path m.value e f) fs

-- a key that no step leads by is no key of the table
not_held : (k : List ℕ) (bs : Branches) → leads (key k) bs ≡ false → holds_key k (members_of bs) ≡ false
not_held k no_branches e = refl
not_held k (branch (key l) g bs) e = or_from _ _ (or_parts _ _ e).0 (not_held k bs (or_parts _ _ e).1)
not_held k (branch (number n) g bs) e = not_held k bs e

mutual
  distinct_closed : {g : Growth} → Fine g → is_distinct (closed g) ≡ true
  distinct_closed (fine {h = None} e bs) = distinct_branches bs
  distinct_closed (fine {h = Some v} e bs) = e

  distinct_branches : {bs : Branches} → FineBranches bs → is_distinct (closed_branches bs) ≡ true
  distinct_branches no_more = refl
  distinct_branches (one_more {s = key k} {bs = bs} l f fs) =
      and_from _ _ (and_from _ _ (rw (not_held k bs l) refl) (distinct_closed f)) (distinct_members fs)
  distinct_branches (one_more {s = number n} l f fs) = and_from _ _ (distinct_closed f) (distinct_items fs)

  distinct_members : {bs : Branches} → FineBranches bs → are_members_distinct (members_of bs) ≡ true
  distinct_members no_more = refl
  distinct_members (one_more {s = key k} {bs = bs} l f fs) =
      and_from _ _ (and_from _ _ (rw (not_held k bs l) refl) (distinct_closed f)) (distinct_members fs)
  distinct_members (one_more {s = number n} l f fs) = distinct_members fs

  distinct_items : {bs : Branches} → FineBranches bs → are_items_distinct (items_of bs) ≡ true
  distinct_items no_more = refl
  distinct_items (one_more {s = key k} l f fs) = distinct_items fs
  distinct_items (one_more {s = number n} l f fs) = and_from _ _ (distinct_closed f) (distinct_items fs)

distinct_tree : {ms : List Mention} → AllFine ms → is_distinct (tree_of ms) ≡ true
distinct_tree fs = distinct_closed (fine_all nothing_grown (fine refl no_more) fs)

mutual
  distinct_finished : (v : Raw) → is_distinct (finished v) ≡ true
  distinct_finished (Raw.integer z) = refl
  distinct_finished (Raw.float t) = refl
  distinct_finished (Raw.boolean b) = refl
  distinct_finished (Raw.string t _) = refl
  distinct_finished (Raw.array es) = distinct_elements es
  distinct_finished (Raw.inline rs) = distinct_tree (fine_rows [] rs)

  distinct_elements : (es : Elements) → are_items_distinct (finished_elements es) ≡ true
  distinct_elements no_elements = refl
  distinct_elements (element at v es) = and_from _ _ (distinct_finished v) (distinct_elements es)

  fine_rows : (p : Path) (rs : Rows) → AllFine (row_mentions p rs)
  fine_rows p no_rows = none
  fine_rows p (row keys at v rs) = also (distinct_finished v) (fine_rows p rs)

fine_append : {ms ns : List Mention} → AllFine ms → AllFine ns → AllFine (ms ++ ns)
fine_append none fs = fs
fine_append (also e es) fs = also e (fine_append es fs)

fine_mentions : (ls : List Located) → AllFine (mentions ls)
fine_mentions [] = none
fine_mentions (l ∷ ls) = also refl (fine_append (fine_rows l.path l.section.rows) (fine_mentions ls))

-- each table of a document has distinct keys
pub keys_are_distinct : (sections : List Section) → is_distinct (tree_of (mentions (located sections))) ≡ true
keys_are_distinct sections = distinct_tree (fine_mentions (located sections))
