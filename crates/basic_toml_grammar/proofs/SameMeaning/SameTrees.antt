-- Mentions in two orders make trees of the same maps, where no two are in each other's way and none goes back in an array.
use Rattle.std.proofs.Common.{◌≡◌, ◌⊎◌, inl, inr, ℕ, ◌≤◌, ◌==◌, Bool, true, false, cond, List, [], ◌∷◌, refl, ap}
use Rattle.std.proofs.Common.{sym, ◌∙◌, subst, arith, Option, Some, None, ltb-true}
use Rattle.std.specs.Prelude.{nat_lt}
use Rattle.std.specs.Option.{option_or}
use Rattle.std.proofs.lemmas.Bool.{false≢true, eqb-true}
use Rattle.basic_toml_value.specs.Data.{Data, member}
use Rattle.basic_toml_value.specs.SameMaps.{Takes, SameMaps, same_array, same_table, SameItems, no_more, one_more}
use Rattle.basic_toml_value.specs.SameMaps.{SameMembers, none_left, taken, same_maps-refl}
use Rattle.basic_toml_value.specs.SameMaps as maps
use Rattle.basic_toml_grammar.specs.Steps.{Step, key, number, Path, step_eq}
use Rattle.basic_toml_grammar.specs.Tree.{Mention, value_here, step_of, first_step, goes_by, after_step, group}
use Rattle.basic_toml_grammar.specs.Tree.{others, Groups, group_of, members_among, items_among, made_of, IsTree}
use Rattle.basic_toml_grammar.specs.Tree.{here, grouped, AreGroups, no_steps, step}
use Rattle.basic_toml_grammar.proofs.AmongElements.{Among, first, next}
use Rattle.basic_toml_grammar.proofs.Clash.StepTestsDecide.{step_same, step_is}
use Rattle.basic_toml_grammar.proofs.Nesting.TreeIsAsDeepAsMentions.{same_kind, Peace, value_found, value_from}
use Rattle.basic_toml_grammar.proofs.Nesting.TreeIsAsDeepAsMentions.{group_among, others_peace, group_peace}
use Rattle.basic_toml_grammar.proofs.Nesting.TreeIsAsDeepAsMentions.{first_among, one_kind}

abbrev mention : Path → Option Data → Mention
mention p v = record { path = p; value = v }

-- where two paths part in an array, the later one goes to a later element
abbrev pub is_past : Step → Step → Bool
is_past (number n) (number m) = nat_lt n m
is_past s t = true

abbrev pub follows : Path → Path → Bool
follows [] q = true
follows (s ∷ p) [] = true
follows (s ∷ p) (t ∷ q) = cond (step_eq s t) (follows p q) (is_past s t)

pub data InOrder : List Mention → Type 0 where
  none : InOrder []
  more : {m : Mention} {ms : List Mention} → ((n : Mention) → Among n ms → follows m.path n.path ≡ true) → InOrder ms
      → InOrder (m ∷ ms)

among_cases : {n m : Mention} {ms : List Mention} → Among n (m ∷ ms) → (n ≡ m) ⊎ Among n ms
among_cases first = inl refl
among_cases (next a) = inr a

-- what is among the group of a step, and among the others
group_from : (t : Step) (ms : List Mention) {n : Mention} → Among n (group t ms)
    → Among (mention (t ∷ n.path) n.value) ms
group_from t [] a = elim a [ ]
group_from t (m ∷ ms) {n = n} a = go m.path (group_from t ms) a
  where
    go : (p : Path) → (Among n (group t ms) → Among (mention (t ∷ n.path) n.value) ms)
        → Among n (cond (goes_by t p) (mention (after_step p) m.value ∷ group t ms) (group t ms))
        → Among (mention (t ∷ n.path) n.value) (mention p m.value ∷ ms)
    go [] ih a = next (ih a)
    go (s ∷ p) ih a = by (step_eq t s) refl a
      where
        here_or : t ≡ s → (n ≡ mention p m.value) ⊎ Among n (group t ms)
            → Among (mention (t ∷ n.path) n.value) (mention (s ∷ p) m.value ∷ ms)
        here_or e (inl h) = subst (λ n. Among (mention (t ∷ n.path) n.value) (mention (s ∷ p) m.value ∷ ms)) (sym h)
            (subst (λ u. Among (mention (t ∷ p) m.value) (mention (u ∷ p) m.value ∷ ms)) e first)
        here_or e (inr b) = next (ih b)

        by : (b : Bool) → step_eq t s ≡ b → Among n (cond b (mention p m.value ∷ group t ms) (group t ms))
            → Among (mention (t ∷ n.path) n.value) (mention (s ∷ p) m.value ∷ ms)
        by true e a = here_or (step_is t s e) (among_cases a)
        by false e a = next (ih a)

others_from : (t : Step) (ms : List Mention) {n : Mention} → Among n (others t ms) → Among n ms
    × (goes_by t n.path ≡ false)
others_from t [] a = elim a [ ]
others_from t (m ∷ ms) {n = n} a = go (goes_by t m.path) refl (others_from t ms) a
  where
    after : Among n ms × (goes_by t n.path ≡ false) → Among n (m ∷ ms) × (goes_by t n.path ≡ false)
    after h = (next h.0, h.1)

    here_or : goes_by t m.path ≡ false → (Among n (others t ms) → Among n ms × (goes_by t n.path ≡ false)) → (n ≡ m)
        ⊎ Among n (others t ms)
        → Among n (m ∷ ms) × (goes_by t n.path ≡ false)
    here_or e ih (inl h) = subst (λ n. Among n (m ∷ ms) × (goes_by t n.path ≡ false)) (sym h) (first, e)
    here_or e ih (inr b) = after (ih b)

    go : (b : Bool) → goes_by t m.path ≡ b → (Among n (others t ms) → Among n ms × (goes_by t n.path ≡ false))
        → Among n (cond b (others t ms) (m ∷ others t ms)) → Among n (m ∷ ms) × (goes_by t n.path ≡ false)
    go true e ih a = after (ih a)
    go false e ih a = here_or e ih (among_cases a)

others_to : (t : Step) {n : Mention} {ms : List Mention} → goes_by t n.path ≡ false → Among n ms → Among n (others t ms)
others_to t e first = rw e first
others_to t {n = n} e (next {y = m} {xs = ms} a) = go (goes_by t m.path) (others_to t e a)
  where
    go : (b : Bool) → Among n (others t ms) → Among n (cond b (others t ms) (m ∷ others t ms))
    go true a = a
    go false a = next a

-- order is kept in both
others_order : {ms : List Mention} (t : Step) → InOrder ms → InOrder (others t ms)
others_order t none = none
others_order t (more {m = m} {ms = ms} h o) = go (goes_by t m.path) (others_order t o)
  where
    go : (b : Bool) → InOrder (others t ms) → InOrder (cond b (others t ms) (m ∷ others t ms))
    go true r = r
    go false r = more (λ n a. h n (others_from t ms a).0) r

group_order : {ms : List Mention} (t : Step) → InOrder ms → InOrder (group t ms)
group_order t none = none
group_order t (more {m = m} {ms = ms} h o) = go m.path h (group_order t o)
  where
    go : (p : Path) → ((n : Mention) → Among n ms → follows p n.path ≡ true) → InOrder (group t ms)
        → InOrder (cond (goes_by t p) (mention (after_step p) m.value ∷ group t ms) (group t ms))
    go [] h r = r
    go (s ∷ p) h r = by (step_eq t s) refl
      where
        by : (b : Bool) → step_eq t s ≡ b → InOrder (cond b (mention p m.value ∷ group t ms) (group t ms))
        by false e = r
        by true e =
            let same : step_eq s t ≡ true = ap (λ x. step_eq x t) (sym (step_is t s e)) ∙ step_same t in
            more (λ n a. sym (ap (λ b. cond b (follows p n.path) (is_past s t)) same) ∙
            h (mention (t ∷ n.path) n.value) (group_from t ms a)) r

-- the same mentions in two orders
pub record Turned (ms ns : List Mention) : Type 0 where
  pub there : (n : Mention) → Among n ms → Among n ns
  pub back : (n : Mention) → Among n ns → Among n ms
  pub peace : Peace ms
  pub its_peace : Peace ns
  pub order : InOrder ms
  pub its_order : InOrder ns

covers_group : {ms ns : List Mention} (t : Step) → ((n : Mention) → Among n ms → Among n ns) → (n : Mention)
    → Among n (group t ms) → Among n (group t ns)
covers_group {ms = ms} t h n a =
    group_among t t n.path n.value (step_same t) (h (mention (t ∷ n.path) n.value) (group_from t ms a))

covers_others : {ms ns : List Mention} (t : Step) → ((n : Mention) → Among n ms → Among n ns) → (n : Mention)
    → Among n (others t ms) → Among n (others t ns)
covers_others {ms = ms} t h n a = let r = others_from t ms a in others_to t r.1 (h n r.0)

turned_group : {ms ns : List Mention} (t : Step) → Turned ms ns → Turned (group t ms) (group t ns)
turned_group t h = record {
  there = covers_group t h.there;
  back = covers_group t h.back;
  peace = group_peace t h.peace;
  its_peace = group_peace t h.its_peace;
  order = group_order t h.order;
  its_order = group_order t h.its_order;
}

turned_others : {ms ns : List Mention} (t : Step) → Turned ms ns → Turned (others t ms) (others t ns)
turned_others t h = record {
  there = covers_others t h.there;
  back = covers_others t h.back;
  peace = others_peace t h.peace;
  its_peace = others_peace t h.its_peace;
  order = others_order t h.order;
  its_order = others_order t h.its_order;
}

-- where a mention goes on, some step is the first
no_step : {ms : List Mention} (s : Step) (p : Path) (v : Option Data) → first_step ms ≡ None
    → Among (mention (s ∷ p) v) ms → ⊥
no_step s p v e first = let h : Some s ≡ None = e in cc
no_step s p v e (next {y = m} {xs = ms} a) = go m.path e (λ f. no_step s p v f a)
  where
    go : (q : Path) → option_or (step_of q) (first_step ms) ≡ None → (first_step ms ≡ None → ⊥) → ⊥
    go [] e f = f e
    go (t ∷ q) e f = let h : Some t ≡ None = e in cc

-- the first number is the least
least : {ms : List Mention} (n m : ℕ) (p : Path) (v : Option Data) → InOrder ms → first_step ms ≡ Some (number n)
    → Among (mention (number m ∷ p) v) ms → n ≤ m
least n m p v o e first = let h : Some (number m) ≡ Some (number n) = e in let same : m ≡ n = cc in omega arith
least n m p v (more {m = x} {ms = ms} h o) e (next a) = go x.path h e (λ f. least n m p v o f a)
  where
    go : (q : Path) → ((y : Mention) → Among y ms → follows q y.path ≡ true)
        → option_or (step_of q) (first_step ms) ≡ Some (number n) → (first_step ms ≡ Some (number n) → n ≤ m) → n ≤ m
    go [] h e f = f e
    go (s ∷ q) h e f =
        let same : s ≡ number n = cc in
        let g : follows (number n ∷ q) (number m ∷ p) ≡ true =
        subst (λ s. follows (s ∷ q) (number m ∷ p) ≡ true) same (h (mention (number m ∷ p) v) a) in
        by (n == m) refl g
      where
        by : (b : Bool) → (n == m) ≡ b → cond b (follows q p) (nat_lt n m) ≡ true → n ≤ m
        by true f g = let same : n ≡ m = eqb-true n m f in omega arith
        by false f g = omega (arith, ltb-true n m g)

-- taking a group out and then another
group_past : (s t : Step) (ms : List Mention) → step_eq s t ≡ false → group t (others s ms) ≡ group t ms
group_past s t [] e = refl
group_past s t (m ∷ ms) e = go m.path (group_past s t ms e)
  where
    go : (p : Path) → group t (others s ms) ≡ group t ms
        → group t (others s (mention p m.value ∷ ms)) ≡ group t (mention p m.value ∷ ms)
    go [] ih = ih
    go (u ∷ p) ih = by (step_eq s u) refl
      where
        past : (b : Bool) → step_eq t u ≡ b → s ≡ u → group t ms ≡ cond b (mention p m.value ∷ group t ms) (group t ms)
        past false f g = refl
        past true f g = absurd (false≢true (sym e ∙ ap (λ x. step_eq s x) (step_is t u f ∙ sym g) ∙ step_same s))

        by : (b : Bool) → step_eq s u ≡ b
            → group t (cond b (others s ms) (mention (u ∷ p) m.value ∷ others s ms))
            ≡ group t (mention (u ∷ p) m.value ∷ ms)
        by true f = ih ∙ past (step_eq t u) refl (step_is s u f)
        by false f = ap (λ g. cond (step_eq t u) (mention p m.value ∷ g) g) ih

others_past : (s t : Step) (ms : List Mention) → others s (others t ms) ≡ others t (others s ms)
others_past s t [] = refl
others_past s t (m ∷ ms) = go (goes_by s m.path) refl (goes_by t m.path) refl (others_past s t ms)
  where
    go : (a : Bool) → goes_by s m.path ≡ a → (b : Bool) → goes_by t m.path ≡ b
        → others s (others t ms) ≡ others t (others s ms)
        → others s (cond b (others t ms) (m ∷ others t ms)) ≡ others t (cond a (others s ms) (m ∷ others s ms))
    go true e true f ih = ih
    go true e false f ih = rw e ih
    go false e true f ih = rw f ih
    go false e false f ih = rw (e, f) (ap (λ l. m ∷ l) ih)

first_kept : (s t : Step) (ms : List Mention) → step_eq t s ≡ false → first_step ms ≡ Some s
    → first_step (others t ms) ≡ Some s
first_kept s t [] e f = f
first_kept s t (m ∷ ms) e f = go m.path (first_kept s t ms e) f
  where
    go : (p : Path) → (first_step ms ≡ Some s → first_step (others t ms) ≡ Some s)
        → option_or (step_of p) (first_step ms) ≡ Some s
        → first_step (cond (goes_by t p) (others t ms) (mention p m.value ∷ others t ms)) ≡ Some s
    go [] ih f = ih f
    go (u ∷ p) ih f = let same : u ≡ s = cc in rw (ap (λ x. step_eq t x) same ∙ e) f

-- all steps from here are of a kind
abbrev Kind : Step → List Mention → Type 0
Kind x ms = (s : Step) (p : Path) (v : Option Data) → Among (mention (s ∷ p) v) ms → same_kind x s ≡ true

kind_others : {ms : List Mention} (x t : Step) → Kind x ms → Kind x (others t ms)
kind_others {ms = ms} x t h s p v a = h s p v (others_from t ms a).0

-- the group of a key, taken from the groups
record Taken (k : List ℕ) (ns : List Mention) (hs : Groups) : Type 0 where
  value : Data
  rest : Groups
  takes : Takes (members_among hs) k value (members_among rest)
  tree : IsTree (group (key k) ns) value
  others_are : AreGroups (others (key k) ns) rest

take_group : {ns : List Mention} {hs : Groups} (k : List ℕ) (p : Path) (v : Option Data) → Kind (key k) ns
    → AreGroups ns hs → Among (mention (key k ∷ p) v) ns → Taken k ns hs
take_group k p v kind (no_steps e) a = absurd (no_step (key k) p v e a)
take_group {ns = ns} k p v kind (step {s = number n} {d = d} {groups = hs} e tree rest) a =
    let r = first_among ns (number n) e in absurd (false≢true (kind (number n) r.0 r.1 r.2))
take_group {ns = ns} k p v kind (step {s = key l} {d = d} {groups = hs} e tree rest) a =
    go (step_eq (key l) (key k)) refl (take_group k p v (kind_others (key k) (key l) kind) rest)
  where
    go : (b : Bool) → step_eq (key l) (key k) ≡ b
        → (Among (mention (key k ∷ p) v) (others (key l) ns) → Taken k (others (key l) ns) hs)
        → Taken k ns (group_of (key l) d hs)
    go true f ih =
        let same : key l ≡ key k = step_is (key l) (key k) f in
        let name : l ≡ k = cc in
        record {
          value = d;
          rest = hs;
          takes = subst (λ l. Takes (member l d (members_among hs)) k d (members_among hs)) (sym name)
              (maps.here k d (members_among hs));
          tree = subst (λ s. IsTree (group s ns) d) same tree;
          others_are = subst (λ s. AreGroups (others s ns) hs) same rest;
        }
    go false f ih =
        let r : Taken k (others (key l) ns) hs = ih (others_to (key l) f a) in
        let other : step_eq (key k) (key l) ≡ false = turned_off (step_eq (key k) (key l)) refl in
        record {
          value = r.value;
          rest = group_of (key l) d r.rest;
          takes = maps.later l d (members_among hs) k r.value (members_among r.rest) r.takes;
          tree = subst (λ ms. IsTree ms r.value) (group_past (key l) (key k) ns f) r.tree;
          others_are = step (first_kept (key l) (key k) ns other e)
              (subst (λ ms. IsTree ms d) (sym (group_past (key k) (key l) ns other)) tree)
              (subst (λ ms. AreGroups ms r.rest) (others_past (key k) (key l) ns) r.others_are);
        }
      where
        turned_off : (b : Bool) → step_eq (key k) (key l) ≡ b → b ≡ false
        turned_off false g = refl
        turned_off true g = absurd
            (false≢true (sym f ∙ ap (λ x. step_eq (key l) x) (step_is (key k) (key l) g) ∙ step_same (key l)))

-- the kind of the first step
first_kind : {ms : List Mention} (s : Step) → Peace ms → first_step ms ≡ Some s → Kind s ms
first_kind {ms = ms} s peace e t q w a = let r = first_among ms s e in one_kind s t r.0 q r.1 w peace r.2 a

-- both begin with the same element
one_number : {ms ns : List Mention} {n m : ℕ} → Turned ms ns → first_step ms ≡ Some (number n)
    → first_step ns ≡ Some (number m) → m ≡ n
one_number {ms = ms} {ns = ns} {n = n} {m = m} h e f =
    let a = first_among ms (number n) e in
    let b = first_among ns (number m) f in
    omega (arith, least n m b.0 b.1 h.order e (h.back _ b.2), least m n a.0 a.1 h.its_order f (h.there _ a.2))

mutual
  pub same_trees : {ms ns : List Mention} {d e : Data} → Turned ms ns → IsTree ms d → IsTree ns e → SameMaps d e
  same_trees {ns = ns} {d = d} {e = e} h (here f) (here g) =
      let found : value_here ns ≡ Some d =
      value_found d h.its_peace (h.there (mention [] (Some d)) (value_from _ d f)) in
      let both : Some d ≡ Some e = sym found ∙ g in
      let same : d ≡ e = cc in
      subst (λ e. SameMaps d e) same (same_maps-refl d)
  same_trees {ns = ns} {d = d} h (here f) (grouped g gs) =
      let found : value_here ns ≡ Some d =
      value_found d h.its_peace (h.there (mention [] (Some d)) (value_from _ d f)) in
      let both : Some d ≡ None = sym found ∙ g in
      cc
  same_trees {ms = ms} {e = e} h (grouped f gs) (here g) =
      let found : value_here ms ≡ Some e = value_found e h.peace (h.back (mention [] (Some e)) (value_from _ e g)) in
      let both : Some e ≡ None = sym found ∙ f in
      cc
  same_trees h (grouped f gs) (grouped g hs) = same_made h gs hs

  same_made : {ms ns : List Mention} {gs hs : Groups} → Turned ms ns → AreGroups ms gs → AreGroups ns hs
      → SameMaps (made_of gs) (made_of hs)
  same_made h (no_steps e) (no_steps f) = same_maps-refl _
  same_made {ns = ns} h (no_steps e) (step {s = t} f tree hs) = let r = first_among ns t f in
      absurd (no_step t r.0 r.1 e (h.back _ r.2))
  same_made {ms = ms} h (step {s = s} e tree gs) (no_steps f) = let r = first_among ms s e in
      absurd (no_step s r.0 r.1 f (h.there _ r.2))
  same_made {ms = ms} {ns = ns} h (step {s = key k} {d = d} {groups = gs} e tree rest)
      (step {s = key l} {d = x} {groups = hs} f other left) =
      let kind : Kind (key k) ms = first_kind (key k) h.peace e in
      let r = first_among ms (key k) e in
      let t : Taken k ns (group_of (key l) x hs) =
      take_group k r.0 r.1 (λ s p v a. kind s p v (h.back _ a)) (step f other left) (h.there _ r.2) in
      same_table _ _ (taken k d t.value (members_among gs) (member l x (members_among hs)) (members_among t.rest)
      t.takes (same_trees (turned_group (key k) h) tree t.tree)
      (same_members k (turned_others (key k) h) (kind_others (key k) (key k) kind) rest t.others_are))
  same_made {ms = ms} {ns = ns} h (step {s = number n} {d = d} {groups = gs} e tree rest)
      (step {s = number m} {d = x} {groups = hs} f other left) =
      let kind : Kind (number n) ms = first_kind (number n) h.peace e in
      let same : m ≡ n = one_number h e f in
      same_array _ _ (one_more d x (items_among gs) (items_among hs)
      (same_trees (turned_group (number n) h) tree (subst (λ m. IsTree (group (number m) ns) x) same other))
      (same_items n (turned_others (number n) h) (kind_others (number n) (number n) kind) rest
      (subst (λ m. AreGroups (others (number m) ns) hs) same left)))
  same_made {ns = ns} h (step {s = key k} e tree gs) (step {s = number m} f other hs) =
      let r = first_among ns (number m) f in
      absurd (false≢true (first_kind (key k) h.peace e (number m) r.0 r.1 (h.back _ r.2)))
  same_made {ns = ns} h (step {s = number n} e tree gs) (step {s = key l} f other hs) =
      let r = first_among ns (key l) f in
      absurd (false≢true (first_kind (number n) h.peace e (key l) r.0 r.1 (h.back _ r.2)))

  same_members : {ms ns : List Mention} {gs hs : Groups} (k : List ℕ) → Turned ms ns → Kind (key k) ms
      → AreGroups ms gs → AreGroups ns hs → SameMembers (members_among gs) (members_among hs)
  same_members k h kind (no_steps e) (no_steps f) = none_left
  same_members {ns = ns} k h kind (no_steps e) (step {s = t} f tree hs) = let r = first_among ns t f in
      absurd (no_step t r.0 r.1 e (h.back _ r.2))
  same_members {ms = ms} k h kind (step {s = number n} e tree rest) hs = let r = first_among ms (number n) e in
      absurd (false≢true (kind (number n) r.0 r.1 r.2))
  same_members {ms = ms} {ns = ns} {hs = hs} k h kind (step {s = key l} {d = d} {groups = gs} e tree rest) left =
      let r = first_among ms (key l) e in
      let t : Taken l ns hs = take_group l r.0 r.1 (λ s p v a. kind s p v (h.back _ a)) left (h.there _ r.2) in
      taken l d t.value (members_among gs) (members_among hs) (members_among t.rest) t.takes
      (same_trees (turned_group (key l) h) tree t.tree)
      (same_members k (turned_others (key l) h) (kind_others (key k) (key l) kind) rest t.others_are)

  same_items : {ms ns : List Mention} {gs hs : Groups} (n : ℕ) → Turned ms ns → Kind (number n) ms → AreGroups ms gs
      → AreGroups ns hs → SameItems (items_among gs) (items_among hs)
  same_items n h kind (no_steps e) (no_steps f) = no_more
  same_items {ns = ns} n h kind (no_steps e) (step {s = t} f tree hs) = let r = first_among ns t f in
      absurd (no_step t r.0 r.1 e (h.back _ r.2))
  same_items {ms = ms} n h kind (step {s = s} e tree gs) (no_steps f) = let r = first_among ms s e in
      absurd (no_step s r.0 r.1 f (h.there _ r.2))
  same_items {ms = ms} n h kind (step {s = key k} e tree rest) hs = let r = first_among ms (key k) e in
      absurd (false≢true (kind (key k) r.0 r.1 r.2))
  same_items {ns = ns} n h kind gs (step {s = key k} f tree rest) = let r = first_among ns (key k) f in
      absurd (false≢true (kind (key k) r.0 r.1 (h.back _ r.2)))
  same_items {ms = ms} {ns = ns} n h kind (step {s = number i} {d = d} {groups = gs} e tree rest)
      (step {s = number m} {d = x} {groups = hs} f other left) =
      let same : m ≡ i = one_number h e f in
      one_more d x (items_among gs) (items_among hs)
      (same_trees (turned_group (number i) h) tree (subst (λ m. IsTree (group (number m) ns) x) same other))
      (same_items n (turned_others (number i) h) (kind_others (number n) (number i) kind) rest
      (subst (λ m. AreGroups (others (number m) ns) hs) same left))
