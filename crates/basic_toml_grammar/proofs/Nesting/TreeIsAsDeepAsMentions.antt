-- Where no two mentions are in each other's way, the tree is as deep as each mention makes it.
use Rattle.std.proofs.Common.{◌≡◌, ◌⊎◌, inl, inr, ℕ, suc, ◌+◌, ◌≤◌, Bool, true, false, not, cond, List, [], ◌∷◌}
use Rattle.std.proofs.Common.{length, refl, ap, sym, ◌∙◌, subst, arith, Option, Some, None}
use Rattle.std.specs.Prelude.{max}
use Rattle.std.specs.List.{list_any}
use Rattle.std.specs.Option.{option_or}
use Rattle.std.proofs.lemmas.Bool.{false≢true, or_parts, or_from}
use Rattle.basic_toml_value.specs.Data.{Data}
use Rattle.basic_toml_grammar.specs.Steps.{Step, key, number, Path, step_eq}
use Rattle.basic_toml_grammar.specs.Tree.{Mention, value_at_end, value_here, step_of, first_step, goes_by}
use Rattle.basic_toml_grammar.specs.Tree.{after_step, group, others, Groups, no_groups, group_of, members_among}
use Rattle.basic_toml_grammar.specs.Tree.{items_among, made_of, IsTree, here, grouped, AreGroups, no_steps, step}
use Rattle.basic_toml_grammar.specs.Depth.{depth, depth_of_items, depth_of_members}
use Rattle.basic_toml_grammar.proofs.AmongElements.{Among, first, next}
use Rattle.basic_toml_grammar.proofs.Clash.StepTestsDecide.{step_same, step_is}

abbrev pub same_kind : Step → Step → Bool
same_kind (key k) (key l) = true
same_kind (number n) (number m) = true
same_kind _ _ = false

-- Two mentions are in each other's way: one gives a value on the path of the other, or they go on by a key and by a number.
abbrev pub bars : Path → Option Data → Path → Option Data → Bool
bars [] (Some v) q w = true
bars [] None [] (Some w) = true
bars [] None [] None = false
bars [] None (t ∷ q) w = false
bars (s ∷ p) v [] (Some w) = true
bars (s ∷ p) v [] None = false
bars (s ∷ p) v (t ∷ q) w = cond (step_eq s t) (bars p v q w) (not (same_kind s t))

abbrev pub barred_by : Mention → Mention → Bool
barred_by m n = bars m.path m.value n.path n.value

-- no two are
pub data Peace : List Mention → Type 0 where
  none : Peace []
  more : {m : Mention} {ms : List Mention} → list_any (barred_by m) ms ≡ false → Peace ms → Peace (m ∷ ms)

abbrev pub mention : Path → Option Data → Mention
mention p v = record { path = p; value = v }

abbrev pub end_depth : Option Data → ℕ
end_depth None = 1
end_depth (Some d) = depth d

-- of a list, none is barred
not_barred : (m : Mention) {n : Mention} {ms : List Mention} → list_any (barred_by m) ms ≡ false → Among n ms
    → barred_by m n ≡ false
not_barred m e first = (or_parts _ _ e).0
not_barred m e (next a) = not_barred m (or_parts _ _ e).1 a

value_bars : (q : Path) (w : Option Data) (v : Data) → bars q w [] (Some v) ≡ true
value_bars [] (Some w) v = refl
value_bars [] None v = refl
value_bars (s ∷ q) w v = refl

-- a value at the end is the value here
pub value_found : {ms : List Mention} (v : Data) → Peace ms → Among (mention [] (Some v)) ms → value_here ms ≡ Some v
value_found v p first = refl
value_found v (more {m = n} e ps) (next a) = absurd (false≢true (sym (not_barred n e a) ∙ value_bars n.path n.value v))

-- a value here is the value of some mention, and bars each other one
pub value_from : (ms : List Mention) (v : Data) → value_here ms ≡ Some v → Among (mention [] (Some v)) ms
value_from [] v e = cc
value_from (m ∷ ms) v e = go m.path m.value (value_from ms v) e
  where
    go : (p : Path) (w : Option Data) → (value_here ms ≡ Some v → Among (mention [] (Some v)) ms)
        → option_or (value_at_end p w) (value_here ms) ≡ Some v
        → Among (mention [] (Some v)) (mention p w ∷ ms)
    go [] None ih e = next (ih e)
    go [] (Some w) ih e = let same : w ≡ v = cc in
        subst (λ v. Among (mention [] (Some v)) (mention [] (Some w) ∷ ms)) same first
    go (s ∷ p) w ih e = next (ih e)

one_bar : {ms : List Mention} {m n : Mention} → Peace ms → Among m ms → Among n ms → (m ≡ n)
    ⊎ ((barred_by m n ≡ false) ⊎ (barred_by n m ≡ false))
one_bar none a b = elim a [ ]
one_bar (more e ps) first first = inl refl
one_bar (more {m = m} e ps) first (next b) = inr (inl (not_barred m e b))
one_bar (more {m = n} e ps) (next a) first = inr (inr (not_barred n e a))
one_bar (more e ps) (next a) (next b) = one_bar ps a b

-- no value stands here where a mention goes on, or where a table is mentioned
no_value : {ms : List Mention} (m : Mention) → Peace ms → Among m ms
    → ((v : Data) → barred_by m (mention [] (Some v)) ≡ true) → ((v : Data) → m ≡ mention [] (Some v) → ⊥)
    → (v : Data) → value_here ms ≡ Some v → ⊥
no_value {ms = ms} m p a bar other v e = go (one_bar p a (value_from ms v e))
  where
    go : (m ≡ mention [] (Some v))
        ⊎ ((barred_by m (mention [] (Some v)) ≡ false) ⊎ (barred_by (mention [] (Some v)) m ≡ false)) → ⊥
    go (inl h) = other v h
    go (inr (inl h)) = false≢true (sym h ∙ bar v)
    go (inr (inr h)) = false≢true (sym h)

-- the group of a step
pub group_among : {ms : List Mention} (s t : Step) (p : Path) (v : Option Data) → step_eq t s ≡ true
    → Among (mention (s ∷ p) v) ms → Among (mention p v) (group t ms)
group_among s t p v e (first {xs = ms}) = rw e first
group_among s t p v e (next {y = n} {xs = ms} a) = go (goes_by t n.path) (group_among s t p v e a)
  where
    go : (b : Bool) → Among (mention p v) (group t ms)
        → Among (mention p v) (cond b (mention (after_step n.path) n.value ∷ group t ms) (group t ms))
    go true a = next a
    go false a = a

others_among : {ms : List Mention} (s t : Step) (p : Path) (v : Option Data) → step_eq t s ≡ false
    → Among (mention (s ∷ p) v) ms → Among (mention (s ∷ p) v) (others t ms)
others_among s t p v e (first {xs = ms}) = rw e first
others_among s t p v e (next {y = n} {xs = ms} a) = go (goes_by t n.path) (others_among s t p v e a)
  where
    go : (b : Bool) → Among (mention (s ∷ p) v) (others t ms)
        → Among (mention (s ∷ p) v) (cond b (others t ms) (n ∷ others t ms))
    go true a = a
    go false a = next a

others_free : (m : Mention) (t : Step) (ms : List Mention) → list_any (barred_by m) ms ≡ false
    → list_any (barred_by m) (others t ms) ≡ false
others_free m t [] e = refl
others_free m t (n ∷ ms) e = go (goes_by t n.path) (others_free m t ms (or_parts _ _ e).1)
  where
    go : (b : Bool) → list_any (barred_by m) (others t ms) ≡ false
        → list_any (barred_by m) (cond b (others t ms) (n ∷ others t ms)) ≡ false
    go true h = h
    go false h = or_from _ _ (or_parts _ _ e).0 h

pub others_peace : {ms : List Mention} (t : Step) → Peace ms → Peace (others t ms)
others_peace t none = none
others_peace t (more {m = m} {ms = ms} e p) = go (goes_by t m.path) (others_peace t p)
  where
    go : (b : Bool) → Peace (others t ms) → Peace (cond b (others t ms) (m ∷ others t ms))
    go true h = h
    go false h = more (others_free m t ms e) h

group_free : (s t : Step) (p : Path) (v : Option Data) (ms : List Mention) → step_eq t s ≡ true
    → list_any (barred_by (mention (s ∷ p) v)) ms ≡ false
    → list_any (barred_by (mention p v)) (group t ms) ≡ false
group_free s t p v [] e h = refl
group_free s t p v (n ∷ ms) e h = go n.path (or_parts _ _ h).0 (group_free s t p v ms e (or_parts _ _ h).1)
  where
    go : (q : Path) → bars (s ∷ p) v q n.value ≡ false → list_any (barred_by (mention p v)) (group t ms) ≡ false
        → list_any (barred_by (mention p v))
        (cond (goes_by t q) (mention (after_step q) n.value ∷ group t ms) (group t ms)) ≡ false
    go [] b r = r
    go (u ∷ q) b r = by (step_eq t u) refl
      where
        by : (c : Bool) → step_eq t u ≡ c
            → list_any (barred_by (mention p v)) (cond c (mention q n.value ∷ group t ms) (group t ms)) ≡ false
        by false f = r
        by true f =
            let same : s ≡ u = sym (step_is t s e) ∙ step_is t u f in
            let eq : step_eq s u ≡ true = ap (λ x. step_eq s x) (sym same) ∙ step_same s in
            or_from _ _ (sym (ap (λ c. cond c (bars p v q n.value) (not (same_kind s u))) eq) ∙ b) r

pub group_peace : {ms : List Mention} (t : Step) → Peace ms → Peace (group t ms)
group_peace t none = none
group_peace t (more {m = m} {ms = ms} e p) = go m.path e (group_peace t p)
  where
    go : (q : Path) → list_any (barred_by (mention q m.value)) ms ≡ false → Peace (group t ms)
        → Peace (cond (goes_by t q) (mention (after_step q) m.value ∷ group t ms) (group t ms))
    go [] e h = h
    go (s ∷ q) e h = by (step_eq t s) refl
      where
        by : (c : Bool) → step_eq t s ≡ c → Peace (cond c (mention q m.value ∷ group t ms) (group t ms))
        by false f = h
        by true f = more (group_free s t q m.value ms f e) h

-- the deepest of the groups of a kind
abbrev deepest : Step → Groups → ℕ
deepest s no_groups = 0
deepest s (group_of t d gs) = cond (same_kind s t) (max (depth d) (deepest s gs)) (deepest s gs)

members_deep : (k : List ℕ) (gs : Groups) → depth_of_members (members_among gs) ≡ deepest (key k) gs
members_deep k no_groups = refl
members_deep k (group_of (key l) d gs) = ap (λ n. max (depth d) n) (members_deep k gs)
members_deep k (group_of (number n) d gs) = members_deep k gs

items_deep : (n : ℕ) (gs : Groups) → depth_of_items (items_among gs) ≡ deepest (number n) gs
items_deep n no_groups = refl
items_deep n (group_of (key l) d gs) = items_deep n gs
items_deep n (group_of (number m) d gs) = ap (λ n. max (depth d) n) (items_deep n gs)

made_deep : (s t : Step) (d : Data) (gs : Groups) → same_kind s t ≡ true
    → depth (made_of (group_of t d gs)) ≡ suc (deepest s (group_of t d gs))
made_deep (key k) (key l) d gs e = ap (λ n. suc (max (depth d) n)) (members_deep k gs)
made_deep (number n) (number m) d gs e = ap (λ k. suc (max (depth d) k)) (items_deep n gs)
made_deep (key k) (number m) d gs e = absurd (false≢true e)
made_deep (number n) (key l) d gs e = absurd (false≢true e)

abbrev Reached : Path → Option Data → Type 0
Reached p v = (ms : List Mention) (d : Data) → Peace ms → Among (mention p v) ms → IsTree ms d
    → length p + end_depth v ≤ depth d

kind_of_same : (s t : Step) → step_eq s t ≡ true → same_kind s t ≡ true
kind_of_same (key k) (key l) e = refl
kind_of_same (number n) (number m) e = refl
kind_of_same (key k) (number m) e = absurd (false≢true e)
kind_of_same (number n) (key l) e = absurd (false≢true e)

reach_groups : (s : Step) (p : Path) (v : Option Data) → Reached p v → {ms : List Mention} {gs : Groups}
    → AreGroups ms gs → Peace ms → Among (mention (s ∷ p) v) ms → length p + end_depth v ≤ deepest s gs
reach_groups s p v ih {ms = ms} (no_steps e) peace a = absurd (nowhere ms e a)
  where
    nowhere : (ms : List Mention) → first_step ms ≡ None → Among (mention (s ∷ p) v) ms → ⊥
    nowhere ms e first = let h : Some s ≡ None = e in cc
    nowhere (m ∷ ms) e (next a) = go m.path e (λ f. nowhere ms f a)
      where
        go : (q : Path) → option_or (step_of q) (first_step ms) ≡ None → (first_step ms ≡ None → ⊥) → ⊥
        go [] e f = f e
        go (t ∷ q) e f = let h : Some t ≡ None = e in cc
reach_groups s p v ih {ms = ms} (step {s = t} {d = d} {groups = gs} e tree rest) peace a =
    go (step_eq t s) refl (reach_groups s p v ih rest (others_peace t peace))
  where
    turned : step_eq t s ≡ true → same_kind s t ≡ true
    turned f = kind_of_same s t (ap (λ x. step_eq s x) (step_is t s f) ∙ step_same s)

    bigger : (b : Bool) (n : ℕ) → n ≤ deepest s gs → n ≤ cond b (max (depth d) (deepest s gs)) (deepest s gs)
    bigger true n h = omega arith
    bigger false n h = h

    go : (b : Bool) → step_eq t s ≡ b
        → (Among (mention (s ∷ p) v) (others t ms) → length p + end_depth v ≤ deepest s gs)
        → length p + end_depth v ≤ cond (same_kind s t) (max (depth d) (deepest s gs)) (deepest s gs)
    go true f r =
        let h : length p + end_depth v ≤ depth d =
        ih (group t ms) d (group_peace t peace) (group_among s t p v f a) tree in
        subst (λ b. length p + end_depth v ≤ cond b (max (depth d) (deepest s gs)) (deepest s gs)) (sym (turned f))
        (omega arith)
    go false f r = bigger (same_kind s t) (length p + end_depth v) (r (others_among s t p v f a))

pub first_among : (ms : List Mention) (t : Step) → first_step ms ≡ Some t → (q : Path) × (w : Option Data)
    × Among (mention (t ∷ q) w) ms
first_among [] t e = cc
first_among (m ∷ ms) t e = go m.path e (first_among ms t)
  where
    go : (p : Path) → option_or (step_of p) (first_step ms) ≡ Some t
        → (first_step ms ≡ Some t → (q : Path) × (w : Option Data) × Among (mention (t ∷ q) w) ms)
        → (q : Path) × (w : Option Data) × Among (mention (t ∷ q) w) (mention p m.value ∷ ms)
    go [] e f = let (q, w, a) = f e in (q, w, next a)
    go (s ∷ p) e f = let same : s ≡ t = cc in
        (p, m.value, subst (λ t. Among (mention (t ∷ p) m.value) (mention (s ∷ p) m.value ∷ ms)) same first)

turned_kind : (s t : Step) → same_kind s t ≡ same_kind t s
turned_kind (key k) (key l) = refl
turned_kind (key k) (number m) = refl
turned_kind (number n) (key l) = refl
turned_kind (number n) (number m) = refl

-- where nothing bars, the steps are of one kind
kinds : (s t : Step) (p q : Path) (v w : Option Data) → bars (s ∷ p) v (t ∷ q) w ≡ false → same_kind s t ≡ true
kinds s t p q v w e = go (step_eq s t) refl e
  where
    known : (b : Bool) → not b ≡ false → b ≡ true
    known true e = refl
    known false e = absurd (false≢true (sym e))

    go : (b : Bool) → step_eq s t ≡ b → cond b (bars p v q w) (not (same_kind s t)) ≡ false → same_kind s t ≡ true
    go true f e = kind_of_same s t f
    go false f e = known (same_kind s t) e

pub one_kind : {ms : List Mention} (s t : Step) (p q : Path) (v w : Option Data) → Peace ms
    → Among (mention (s ∷ p) v) ms → Among (mention (t ∷ q) w) ms → same_kind s t ≡ true
one_kind s t p q v w peace a b = go (one_bar peace a b)
  where
    heads : mention (s ∷ p) v ≡ mention (t ∷ q) w → s ≡ t
    heads h = let e : s ∷ p ≡ t ∷ q = ap (λ (m : Mention). m.path) h in cc

    go : (mention (s ∷ p) v ≡ mention (t ∷ q) w)
        ⊎ ((bars (s ∷ p) v (t ∷ q) w ≡ false) ⊎ (bars (t ∷ q) w (s ∷ p) v ≡ false)) → same_kind s t ≡ true
    go (inl h) = kind_of_same s t (ap (λ x. step_eq s x) (sym (heads h)) ∙ step_same s)
    go (inr (inl h)) = kinds s t p q v w h
    go (inr (inr h)) = turned_kind s t ∙ kinds t s q p w v h

-- the tree is as deep as a mention makes it
pub reached : (p : Path) (v : Option Data) → Reached p v
reached [] (Some x) ms d peace a (here e) =
    let same : Some x ≡ Some d = sym (value_found x peace a) ∙ e in
    let is : x ≡ d = cc in
    subst (λ d. 0 + depth x ≤ depth d) is (omega arith)
reached [] (Some x) ms d peace a (grouped e gs) = let h : Some x ≡ None = sym (value_found x peace a) ∙ e in cc
reached [] None ms d peace a (here e) =
    absurd (no_value (mention [] None) peace a (λ v. refl) (λ v h. let f : None ≡ Some v =
    ap (λ (m : Mention). m.value) h in cc) d e)
reached [] None ms d peace a (grouped {groups = gs} e all) = made gs
  where
    made : (gs : Groups) → 0 + 1 ≤ depth (made_of gs)
    made no_groups = omega arith
    made (group_of (key k) d gs) = omega arith
    made (group_of (number n) d gs) = omega arith
reached (s ∷ p) v ms d peace a (here e) =
    absurd (no_value (mention (s ∷ p) v) peace a (λ w. refl) (λ w h. let f : s ∷ p ≡ [] =
    ap (λ (m : Mention). m.path) h in cc) d e)
reached (s ∷ p) v ms d peace a (grouped e (no_steps f)) =
    let h : length p + end_depth v ≤ deepest s no_groups = reach_groups s p v (reached p v) (no_steps f) peace a in
    omega arith
reached (s ∷ p) v ms d peace a (grouped e (step {s = t} {d = x} {groups = gs} f tree rest)) =
    let h : length p + end_depth v ≤ deepest s (group_of t x gs) =
    reach_groups s p v (reached p v) (step f tree rest) peace a in
    let r : (q : Path) × (w : Option Data) × Among (mention (t ∷ q) w) ms = first_among ms t f in
    let kind : same_kind s t ≡ true = one_kind s t p r.0 v r.1 peace a r.2 in
    subst (λ n. suc (length p) + end_depth v ≤ n) (sym (made_deep s t x gs kind)) (omega arith)
