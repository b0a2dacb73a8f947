-- In a trie that sections went into, the elements of each array of tables stand in the order of their numbers, from 0 on.
use Rattle.std.proofs.Common.{◌≡◌, ◌<◌, ◌≤◌, ℕ, zero, suc, Bool, true, false, List, [], ◌∷◌, Option, Some, None}
use Rattle.std.proofs.Common.{refl, ap, sym, ◌∙◌, subst, arith}
use Rattle.std.specs.Prelude.{if◌then◌else◌, option_map}
use Rattle.std.specs.Option.{option_or}
use Rattle.std.proofs.lemmas.Bool.{false≢true}
use Rattle.basic_toml_value.specs.Data.{Data}
use Rattle.basic_toml_grammar.specs.Sections.{KeyTexts, texts, Rows, no_rows, row, Section}
use Rattle.basic_toml_grammar.specs.Steps.{key, number, step_eq}
use Rattle.basic_toml_grammar.specs.RowClash.{rows_clash}
use Rattle.basic_toml_grammar.specs.Mentions.{finished}
use Rattle.basic_toml_grammar.specs.Marks.{MarkKind, passed, by_latest, named, added, dotted, valued}
use Rattle.basic_toml_grammar.specs.Standing.{Standing, table, array, value, fits, taken, value_of}
use Rattle.basic_toml_grammar.specs.Entering.{and_then, element_count}
use Rattle.basic_toml_grammar.specs.Trie.{Trie, trie, Tries, no_tries, by, nothing, mark_here, among, at_step, put_row}
use Rattle.basic_toml_grammar.specs.Trie.{put_rows, put_table, count, go_on, put_element, walk, put_section}
use Rattle.basic_toml_grammar.specs.Trie.{put_sections}
use Rattle.basic_toml_grammar.proofs.Clash.StepTestsDecide.{step_same, step_is}

-- the numbers among these steps go from the first on up to the other, and so do those at each node below
abbrev mutual
  pub InTurn : Trie → Type 0
  InTurn (trie s v ts) = Counts 0 (element_count s) ts

  pub Counts : ℕ → ℕ → Tries → Type 0
  Counts j n no_tries = j ≡ n
  Counts j n (by (key k) t ts) = InTurn t × Counts j n ts
  Counts j n (by (number i) t ts) = (i ≡ j) × InTurn t × Counts (suc j) n ts

abbrev pub Keeps : (Trie → Option Trie) → Type 0
Keeps f = (t u : Trie) → InTurn t → f t ≡ Some u → InTurn u

then_keeps : (f g : Trie → Option Trie) → Keeps f → Keeps g → Keeps (λ t. and_then (f t) g)
then_keeps f g kf kg t u h e = go (f t) refl e
  where
    go : (o : Option Trie) → f t ≡ o → and_then o g ≡ Some u → InTurn u
    go None is e = cc
    go (Some w) is e = kg w u (kf t w h is) e

counts_up : (j n : ℕ) (ts : Tries) → Counts j n ts → j ≤ n
counts_up j n no_tries h = omega (arith, h)
counts_up j n (by (key k) t ts) h = counts_up j n ts h.1
counts_up j n (by (number i) t ts) h = let more = counts_up (suc j) n ts h.2 in omega (arith, more)

mapped : {A : Type 0} (g : A → Tries) (o : Option A) (us : Tries) → option_map g o ≡ Some us
    → (x : A) × (o ≡ Some x) × (g x ≡ us)
mapped g None us e = cc
mapped g (Some x) us e = (x, refl, cc)

-- a change at a key
module _ (k : List ℕ) (f : Trie → Option Trie) (keeps : Keeps f) where
  among_key : (j n : ℕ) (ts us : Tries) → Counts j n ts → among (key k) f ts ≡ Some us → Counts j n us
  among_key j n no_tries us h e =
      let r = mapped (λ t. by (key k) t no_tries) (f nothing) us e in
      subst (Counts j n) r.2 (keeps nothing r.0 refl r.1, h)
  among_key j n (by (number i) t ts) us h e =
      let r = mapped (λ ts. by (number i) t ts) (among (key k) f ts) us e in
      subst (Counts j n) r.2 (h.0, h.1, among_key (suc j) n ts r.0 h.2 r.1)
  among_key j n (by (key l) t ts) us h e =
      go (step_eq (key l) (key k)) (λ vs is. among_key j n ts vs h.1 is) e
    where
      go : (b : Bool) → ((vs : Tries) → among (key k) f ts ≡ Some vs → Counts j n vs)
          → (if b then option_map (λ t. by (key l) t ts) (f t)
          else option_map (λ ts. by (key l) t ts) (among (key k) f ts)) ≡ Some us → Counts j n us
      go true later e =
          let r = mapped (λ t. by (key l) t ts) (f t) us e in
          subst (Counts j n) r.2 (keeps t r.0 h.0 r.1, h.1)
      go false later e =
          let r = mapped (λ ts. by (key l) t ts) (among (key k) f ts) us e in
          subst (Counts j n) r.2 (h.0, later r.0 r.1)

-- and at a number: that of an element, or the one that comes next
module _ (i n m : ℕ) (f : Trie → Option Trie) (keeps : Keeps f) (within : i ≤ n) (new : i ≡ n → m ≡ suc n)
    (old : i < n → m ≡ n) where
  among_number : (j : ℕ) (ts us : Tries) → j ≤ i → Counts j n ts → among (number i) f ts ≡ Some us → Counts j m us
  among_number j no_tries us up h e =
      let r = mapped (λ t. by (number i) t no_tries) (f nothing) us e in
      let last : i ≡ n = omega (arith, h) in
      let next : m ≡ suc n = new last in
      subst (Counts j m) r.2 (omega (arith, h), keeps nothing r.0 refl r.1, omega (arith, h))
  among_number j (by (key k) t ts) us up h e =
      let r = mapped (λ ts. by (key k) t ts) (among (number i) f ts) us e in
      subst (Counts j m) r.2 (h.0, among_number j ts r.0 up h.1 r.1)
  among_number j (by (number l) t ts) us up h e =
      go (step_eq (number l) (number i)) refl (λ vs on is. among_number (suc j) ts vs on h.2 is) e
    where
      go : (b : Bool) → step_eq (number l) (number i) ≡ b
          → ((vs : Tries) → suc j ≤ i → among (number i) f ts ≡ Some vs → Counts (suc j) m vs)
          → (if b then option_map (λ t. by (number l) t ts) (f t)
          else option_map (λ ts. by (number l) t ts) (among (number i) f ts)) ≡ Some us → Counts j m us
      go true at later e =
          let r = mapped (λ t. by (number l) t ts) (f t) us e in
          let steps : number l ≡ number i = step_is (number l) (number i) at in
          let same : l ≡ i = cc in
          let more = counts_up (suc j) n ts h.2 in
          let stays : m ≡ n = old (omega (arith, h.0)) in
          subst (Counts j m) r.2 (h.0, keeps t r.0 h.1 r.1, subst (λ m. Counts (suc j) m ts) (sym stays) h.2)
      go false at later e =
          let r = mapped (λ ts. by (number l) t ts) (among (number i) f ts) us e in
          let other : l ≡ i → ⊥ = λ same. false≢true (sym at ∙ ap (λ l. step_eq (number l) (number i)) same
          ∙ step_same (number i)) in
          let first : l ≡ j = h.0 in
          let on : suc j ≤ i = grind (arith, other, first, up) in
          subst (Counts j m) r.2 (h.0, h.1, later r.0 on r.1)

-- a mark leaves the elements, but for that which adds one
abbrev adds : MarkKind → Bool
adds added = true
adds k = false

mark_counts : (k : MarkKind) (s : Option Standing) → adds k ≡ false → fits k s ≡ true
    → element_count (Some (taken k s)) ≡ element_count s
mark_counts added s a e = absurd (false≢true (sym a))
mark_counts passed None a e = refl
mark_counts passed (Some (table p n d)) a e = refl
mark_counts passed (Some (array zero)) a e = refl
mark_counts passed (Some (array (suc n))) a e = absurd (false≢true e)
mark_counts passed (Some value) a e = absurd (false≢true e)
mark_counts named None a e = refl
mark_counts named (Some (table p n d)) a e = refl
mark_counts named (Some (array zero)) a e = refl
mark_counts named (Some (array (suc n))) a e = absurd (false≢true e)
mark_counts named (Some value) a e = absurd (false≢true e)
mark_counts dotted None a e = refl
mark_counts dotted (Some (table p n d)) a e = refl
mark_counts dotted (Some (array zero)) a e = refl
mark_counts dotted (Some (array (suc n))) a e = absurd (false≢true e)
mark_counts dotted (Some value) a e = absurd (false≢true e)
mark_counts by_latest None a e = refl
mark_counts by_latest (Some (table p n d)) a e = refl
mark_counts by_latest (Some (array n)) a e = refl
mark_counts by_latest (Some value) a e = absurd (false≢true e)
mark_counts (valued v) None a e = refl
mark_counts (valued v) (Some s) a e = absurd (false≢true e)

added_counts : (s : Option Standing) → fits added s ≡ true → element_count (Some (taken added s)) ≡ suc (element_count s)
added_counts None e = refl
added_counts (Some (table p n d)) e = absurd (false≢true e)
added_counts (Some (array zero)) e = refl
added_counts (Some (array (suc n))) e = refl
added_counts (Some value) e = absurd (false≢true e)

-- what is marked
marked : (k : MarkKind) (s : Option Standing) (v : Option Data) (ts : Tries) (u : Trie)
    → mark_here k (trie s v ts) ≡ Some u
    → (fits k s ≡ true) × (trie (Some (taken k s)) (option_or v (value_of k)) ts ≡ u)
marked k s v ts u e = go (fits k s) refl e
  where
    go : (b : Bool) → fits k s ≡ b
        → (if b then Some (trie (Some (taken k s)) (option_or v (value_of k)) ts) else None) ≡ Some u
        → (fits k s ≡ true) × (trie (Some (taken k s)) (option_or v (value_of k)) ts ≡ u)
    go true is e = (is, cc)
    go false is e = cc

keeps_mark : (k : MarkKind) → adds k ≡ false → Keeps (λ t. mark_here k t)
keeps_mark k a (trie s v ts) u h e =
    let m = marked k s v ts u e in
    subst InTurn m.1 (subst (λ n. Counts 0 n ts) (sym (mark_counts k s a m.0)) h)

keeps_key : (k : List ℕ) (f : Trie → Option Trie) → Keeps f → Keeps (λ t. at_step (key k) f t)
keeps_key k f kf (trie s v ts) u h e = go (among (key k) f ts) refl e
  where
    go : (o : Option Tries) → among (key k) f ts ≡ o → option_map (λ ts. trie s v ts) o ≡ Some u → InTurn u
    go None is e = cc
    go (Some us) is e =
        let same : trie s v us ≡ u = cc in
        subst InTurn same (among_key k f kf 0 (element_count s) ts us h is)

-- rows bring keys alone
keeps_row : (ks : KeyTexts) (v : Data) → Keeps (λ t. put_row ks v t)
keeps_row [] v = keeps_mark (valued v) refl
keeps_row (k ∷ []) v = keeps_key k (λ t. mark_here (valued v) t) (keeps_mark (valued v) refl)
keeps_row (k ∷ l ∷ ks) v =
    keeps_key k (λ t. and_then (mark_here dotted t) (λ t. put_row (l ∷ ks) v t))
    (then_keeps (λ t. mark_here dotted t) (λ t. put_row (l ∷ ks) v t) (keeps_mark dotted refl) (keeps_row (l ∷ ks) v))

keeps_rows : (rows : Rows) → Keeps (λ t. put_rows rows t)
keeps_rows no_rows t u h e = let same : t ≡ u = cc in subst InTurn same h
keeps_rows (row keys at v rows) t u h e =
    then_keeps (λ t. put_row (texts keys) (finished v) t) (λ t. put_rows rows t) (keeps_row (texts keys) (finished v))
    (keeps_rows rows) t u h e

keeps_table : (rows : Rows) → Keeps (λ t. put_table rows t)
keeps_table rows =
    then_keeps (λ t. mark_here named t) (λ t. put_rows rows t) (keeps_mark named refl) (keeps_rows rows)

-- a header goes into the latest element, or adds the next
at_number : (i : ℕ) (f : Trie → Option Trie) → Keeps f → (s r : Option Standing) (v : Option Data) (ts : Tries) (u : Trie)
    → i ≤ element_count s → (i ≡ element_count s → element_count r ≡ suc (element_count s))
    → (i < element_count s → element_count r ≡ element_count s) → Counts 0 (element_count s) ts
    → at_step (number i) f (trie r v ts) ≡ Some u → InTurn u
at_number i f kf s r v ts u within new old h e = go (among (number i) f ts) refl e
  where
    go : (o : Option Tries) → among (number i) f ts ≡ o → option_map (λ ts. trie r v ts) o ≡ Some u → InTurn u
    go None is e = cc
    go (Some us) is e =
        let same : trie r v us ≡ u = cc in
        subst InTurn same (among_number i (element_count s) (element_count r) f kf within new old 0 ts us (omega arith) h is)

keeps_on : (f : Trie → Option Trie) → Keeps f → Keeps (λ t. go_on f (count t) t)
keeps_on f kf (trie s v ts) u h e = go (element_count s) refl e
  where
    go : (n : ℕ) → element_count s ≡ n → go_on f n (trie s v ts) ≡ Some u → InTurn u
    go zero is e = kf (trie s v ts) u h e
    go (suc n) is e = on (mark_here by_latest (trie s v ts)) refl e
      where
        on : (o : Option Trie) → mark_here by_latest (trie s v ts) ≡ o
            → and_then o (λ t. at_step (number n) f t) ≡ Some u → InTurn u
        on None at e = cc
        on (Some w) at e =
            let m = marked by_latest s v ts w at in
            let same = mark_counts by_latest s refl m.0 in
            at_number n f kf s (Some (taken by_latest s)) (option_or v None) ts u (omega (arith, is))
            (λ last. absurd (omega (arith, is, last))) (λ _. same) h
            (ap (λ w. at_step (number n) f w) m.1 ∙ e)

keeps_element : (rows : Rows) → Keeps (λ t. put_element rows t)
keeps_element rows (trie s v ts) u h e = on (mark_here added (trie s v ts)) refl e
  where
    on : (o : Option Trie) → mark_here added (trie s v ts) ≡ o
        → and_then o (λ w. at_step (number (element_count s)) (λ t. put_table rows t) w) ≡ Some u → InTurn u
    on None at e = cc
    on (Some w) at e =
        let m = marked added s v ts w at in
        let more = added_counts s m.0 in
        at_number (element_count s) (λ t. put_table rows t) (keeps_table rows) s (Some (taken added s))
        (option_or v None) ts u (omega arith) (λ _. more) (λ less. absurd (omega (arith, less))) h
        (ap (λ w. at_step (number (element_count s)) (λ t. put_table rows t) w) m.1 ∙ e)

keeps_walk : (is_array : Bool) (rows : Rows) (keys : KeyTexts) → Keeps (λ t. walk is_array rows keys t)
keeps_walk is_array rows [] = keeps_table rows
keeps_walk true rows (k ∷ []) =
    then_keeps (λ t. mark_here passed t) (λ t. at_step (key k) (λ t. put_element rows t) t) (keeps_mark passed refl)
    (keeps_key k (λ t. put_element rows t) (keeps_element rows))
keeps_walk false rows (k ∷ []) =
    then_keeps (λ t. mark_here passed t) (λ t. at_step (key k) (λ t. go_on (λ t. put_table rows t) (count t) t) t)
    (keeps_mark passed refl)
    (keeps_key k (λ t. go_on (λ t. put_table rows t) (count t) t) (keeps_on (λ t. put_table rows t) (keeps_table rows)))
keeps_walk is_array rows (k ∷ l ∷ keys) =
    then_keeps (λ t. mark_here passed t)
    (λ t. at_step (key k) (λ t. go_on (λ t. walk is_array rows (l ∷ keys) t) (count t) t) t) (keeps_mark passed refl)
    (keeps_key k (λ t. go_on (λ t. walk is_array rows (l ∷ keys) t) (count t) t)
    (keeps_on (λ t. walk is_array rows (l ∷ keys) t) (keeps_walk is_array rows (l ∷ keys))))

keeps_section : (s : Section) → Keeps (λ t. put_section s t)
keeps_section s t u h e = go (rows_clash s.rows) e
  where
    go : (b : Bool) → (if b then None else walk s.is_array s.rows (texts s.header) t) ≡ Some u → InTurn u
    go true e = cc
    go false e = keeps_walk s.is_array s.rows (texts s.header) t u h e

keeps_sections : (sections : List Section) → Keeps (λ t. put_sections sections t)
keeps_sections [] t u h e = let same : t ≡ u = cc in subst InTurn same h
keeps_sections (s ∷ sections) t u h e =
    then_keeps (λ t. put_section s t) (λ t. put_sections sections t) (keeps_section s) (keeps_sections sections) t u h e

pub numbers_in_turn : (sections : List Section) (t : Trie) → put_sections sections nothing ≡ Some t → InTurn t
numbers_in_turn sections t e = keeps_sections sections nothing t refl e
