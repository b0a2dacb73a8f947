-- Which keys rows lead over: rows that tell something past a step go over it, and tell of it, too. So where rows put
-- something at a key of a table that headers made, or below it, they are rows of one section: those of two would clash.
use Rattle.std.proofs.Common.{◌≡◌, ◌⊎◌, inl, inr, ℕ, true, false, List, [], ◌∷◌, ◌++◌, Option, Some, None, refl, sym}
use Rattle.std.proofs.Common.{◌∙◌, arith, ◌+◌, zero, suc, Bool, ap, slice_get, append_assoc, length, drop, is_some}
use Rattle.std.proofs.lemmas.Bool.{false≢true, and_parts, or_parts, cases_Bool}
use Rattle.basic_toml_grammar.specs.Sections.{KeyTexts, texts, Raw, Rows, no_rows, Key, row}
use Rattle.basic_toml_grammar.specs.Steps.{Step, key, Path, step_eq, begins, steps_of}
use Rattle.basic_toml_grammar.specs.IndexedPath.{Located}
use Rattle.basic_toml_grammar.specs.SectionClash.{row_crossed, any_row_clashes, without_last_number, target, same_path}
use Rattle.basic_toml_grammar.specs.SectionClash.{any_pair, clashes, clashes_one_way}
use Rattle.basic_toml_grammar.specs.Entering.{keyed_within}
use Rattle.basic_toml_grammar.proofs.Clash.ClashesAgree.{turn_eq, crossed_is}
use Rattle.basic_toml_grow.specs.Origins.{Origin, Origins, entry, table_origin, row_origins, value_origins, along}
use Rattle.basic_toml_grow.specs.Origins.{rows_origins}
use Rattle.basic_toml_tree.proofs.Origins.RowsAreNodes.{begins_on, goes_on, along_on, begins_front}
use Rattle.std.specs.List.{list_any, list_all}
use Rattle.basic_toml_grammar.specs.Placed.{is_short}
use Rattle.basic_toml_grammar.specs.Nodes.{is_made}
use Rattle.basic_toml_grammar.proofs.AmongElements.{Among, first, next}
use Rattle.basic_toml_grammar.proofs.Clash.MarksTellPlaces.{crosses_after}
use Rattle.basic_toml_grammar.proofs.Clash.PathsAgree.{append_none}
use Rattle.basic_toml_grammar.proofs.Clash.StepTestsDecide.{step_is, paths_same}
use Rattle.basic_toml_grow.specs.Ways.{sections_origins}
use Rattle.basic_toml_tree.proofs.HeadersMake.{any_of}
use Rattle.basic_toml_tree.proofs.Nodes.KeysLead.{Beyond, compare}
use Rattle.basic_toml_tree.proofs.Nodes.Lines.{goes_by, no_longer, none_passes}

-- Rows of the section with this number tell something.
abbrev pub Told : ℕ → Option Origin → Type 0
Told n o = (x : Origin) × (o ≡ Some x) × (x.section ≡ n) × (x.made ≡ false)

value_told : (n at : ℕ) (v : Raw) → Told n (value_origins n at v [])
value_told n at (Raw.array es) = (_, refl, refl, refl)
value_told n at v = (_, refl, refl, refl)

entry_below : (d : Origin) (g : Origins) (y : Path) (s : Step) (r : Path) → entry d g (y ++ s ∷ r) ≡ g (y ++ s ∷ r)
entry_below d g [] s r = refl
entry_below d g (t ∷ y) s r = refl

-- a row that does not end before a step: it goes over the step, and tells of it, or tells nothing from there on
module _ (d : Origin) (f : Origins) where
  row_none : (ks : KeyTexts) (y : Path) (s : Step) (r : Path) → begins (steps_of ks) y ≡ false
      → begins (y ++ s ∷ []) (steps_of ks) ≡ false → row_origins ks d f (y ++ s ∷ r) ≡ None
  row_none [] y s r not off = absurd (false≢true (sym not))
  row_none (k ∷ ks) [] s r not off = grind arith
  row_none (k ∷ []) (t ∷ y) s r not off = grind (arith, turn_eq t (key k))
  row_none (k ∷ l ∷ ks) (t ∷ y) s r not off =
      let under = entry_below d (row_origins (l ∷ ks) d f) y s r in
      grind (arith, turn_eq t (key k), under, row_none (l ∷ ks) y s r)

  row_some : (n : ℕ) → Told n (Some d) → Told n (f []) → (ks : KeyTexts) (y : Path) (s : Step)
      → begins (y ++ s ∷ []) (steps_of ks) ≡ true → Told n (row_origins ks d f (y ++ s ∷ []))
  row_some n own value [] [] s on = absurd (false≢true on)
  row_some n own value [] (t ∷ y) s on = absurd (false≢true on)
  row_some n own value (k ∷ []) [] s on = rw ((and_parts (step_eq s (key k)) true on).0) value
  row_some n own value (k ∷ l ∷ ks) [] s on = rw ((and_parts (step_eq s (key k)) true on).0) own
  row_some n own value (k ∷ []) (t ∷ y) s on =
      let both = and_parts (step_eq t (key k)) _ on in rw (both.0) (row_some n own value [] y s both.1)
  row_some n own value (k ∷ l ∷ ks) (t ∷ y) s on =
      let both = and_parts (step_eq t (key k)) _ on in
      rw (both.0, entry_below d (row_origins (l ∷ ks) d f) y s []) (row_some n own value (l ∷ ks) y s both.1)

-- Some row of a section goes over a step; it crosses no header that none of the rows crosses.
pub record Over (w : Path) (rows : Rows) (y : Path) (s : Step) : Type 0 where
  pub keys : KeyTexts
  pub on : begins (y ++ s ∷ []) (steps_of keys) ≡ true
  pub crossed : (j : Located) → any_row_clashes w rows j ≡ false → row_crossed w (steps_of keys) j ≡ false
  pub told : (n : ℕ) → Told n (rows_origins n rows (y ++ s ∷ []))

-- No row ends before the step: a header goes on to it on which no row ends.
abbrev pub GoneOn : Path → Rows → Path → Type 0
GoneOn w rows y = (y ≡ []) ⊎ ((j : Located) × (begins (w ++ y) j.path ≡ true) × (any_row_clashes w rows j ≡ false))

not_ended : (w : Path) (k : Key) (ks : List Key) (at : ℕ) (v : Raw) (rows : Rows) (y : Path)
    → GoneOn w (row (k ∷ ks) at v rows) y → begins (steps_of (texts (k ∷ ks))) y ≡ false
not_ended w k ks at v rows y (inl none) = rw none refl
not_ended w k ks at v rows y (inr gone) =
    let steps = steps_of (texts (k ∷ ks)) in
    grind (arith, gone.1, gone.2, goes_on (w ++ steps) (w ++ y) gone.0.path, begins_on w steps y)

pub rows_over : (w : Path) (rows : Rows) (y : Path) (s : Step) → keyed_within rows ≡ true → GoneOn w rows y
    → ((n : ℕ) (r : Path) → rows_origins n rows (y ++ s ∷ r) ≡ None) ⊎ Over w rows y s
rows_over w no_rows y s keyed gone = inl (λ n r. refl)
rows_over w (row [] at v rows) y s keyed gone = absurd (false≢true keyed)
rows_over w (row (k ∷ ks) at v rows) y s keyed gone = elim (cases_Bool (begins (y ++ s ∷ []) (steps_of keys))) [
  | inl on ↦ inr (record {
    keys = keys;
    on = on;
    crossed = λ j none. (or_parts _ _ (or_parts _ _ none).0).1;
    told = λ n.
        let d = table_origin false at n in
        let first = row_some d (value_origins n at v) n (d, refl, refl, refl) (value_told n at v) keys y s on in
        rw (first.1) (first.0, refl, first.2, first.3);
  })
  | inr off ↦
      let none = λ (n : ℕ) (r : Path). row_none (table_origin false at n) (value_origins n at v) keys y s r
      (not_ended w k ks at v rows y gone) off in
      elim (rows_over w rows y s (and_parts _ _ keyed).1 later) [
        | inl more ↦ inl (λ n r. rw (none n r) (more n r))
        | inr over ↦ inr (record {
          keys = over.keys;
          on = over.on;
          crossed = λ j none. over.crossed j (or_parts _ _ none).1;
          told = λ n. rw (none n []) (over.told n);
        })
      ]
]
  where
    keys : KeyTexts
    keys = texts (k ∷ ks)

    later : GoneOn w rows y
    later = elim gone [ inl none ↦ inl none | inr on ↦ inr (on.0, on.1, (or_parts _ _ on.2).1) ]

-- sections of the list, by what all of them are, and by the place of one
all_pass : {l : Located} {ls : List Located} (f : Located → Bool) → list_all f ls ≡ true → Among l ls → f l ≡ true
all_pass f all first = (and_parts _ _ all).0
all_pass f all (next a) = all_pass f (and_parts _ _ all).1 a

among_at : (ls : List Located) (m : ℕ) (l : Located) → slice_get ls m ≡ Some l → Among l ls
among_at [] m l there = absurd (cc)
among_at (i ∷ ls) zero l there = let is : i ≡ l = cc in rw is first
among_at (i ∷ ls) (suc m) l there = next (among_at ls m l there)

pub pairs_apart : {i j : Located} {ls : List Located} → any_pair clashes ls ≡ false → Among i ls → Among j ls
    → (i ≡ j) ⊎ (clashes_one_way i j ≡ false)
pairs_apart none first first = inl refl
pairs_apart none first (next b) = inr (or_parts _ _ (none_passes (clashes _) (or_parts _ _ none).0 b)).0
pairs_apart none (next a) first = inr (or_parts _ _ (none_passes (clashes _) (or_parts _ _ none).0 a)).1
pairs_apart none (next a) (next b) = pairs_apart (or_parts _ _ none).1 a b

-- a header below a section's table, on whose path its row goes on
kept_whole : (w : Path) (u : Step) (b : Path) (ks : KeyTexts) → begins (u ∷ b) (steps_of ks) ≡ true
    → without_last_number (w ++ u ∷ b) ≡ w ++ u ∷ b
kept_whole [] u b [] on = absurd (false≢true on)
kept_whole [] u [] (l ∷ ks) on = grind arith
kept_whole [] u (t ∷ b) (l ∷ ks) on = ap (λ p. u ∷ p) (kept_whole [] t b ks (and_parts _ _ on).1)
kept_whole (s ∷ []) u b ks on = ap (λ p. s ∷ p) (kept_whole [] u b ks on)
kept_whole (s ∷ v ∷ w) u b ks on = ap (λ p. s ∷ p) (kept_whole (v ∷ w) u b ks on)

target_is : (j : Located) → without_last_number j.path ≡ j.path → target j ≡ j.path
target_is j e = grind arith

shorter : (b z : Path) (s : Step) (q : Path) → begins (b ++ (z ++ s ∷ [])) q ≡ true → is_short b q ≡ true
shorter [] [] s [] on = absurd (false≢true on)
shorter [] (t ∷ z) s [] on = absurd (false≢true on)
shorter [] z s (t ∷ q) on = refl
shorter (u ∷ b) z s [] on = absurd (false≢true on)
shorter (u ∷ b) z s (t ∷ q) on = let both = and_parts (step_eq u t) _ on in rw (both.0) (shorter b z s q both.1)

further_clashes : (i j : Located) (y z : Path) (s : Step) → Beyond i.path y j.path z
    → Over i.path i.section.rows y s → clashes_one_way i j ≡ false → ⊥
further_clashes i j y z s ([], at, rest) over apart =
    let one : same_path i j ≡ false = (or_parts _ _ apart).0 in
    false≢true (sym one ∙ rw (at, append_none i.path) (paths_same i.path))
further_clashes i j y z s (u ∷ b, at, rest) over apart =
    let steps = steps_of over.keys in
    let on : begins ((u ∷ b) ++ (z ++ s ∷ [])) steps ≡ true = rw (rest, append_assoc (u ∷ b) z (s ∷ [])) at over.on in
    let whole = kept_whole i.path u b over.keys (begins_front (u ∷ b) (z ++ s ∷ []) steps on) in
    let same : target j ≡ i.path ++ u ∷ b = target_is j (rw at whole) ∙ at in
    let crossed : row_crossed i.path steps j ≡ true =
    rw (crossed_is i.path steps (target j), same) (crosses_after i.path (u ∷ b) steps (shorter (u ∷ b) z s steps on)) in
    false≢true (sym (over.crossed j (or_parts _ _ (or_parts _ _ apart).1).1) ∙ crossed)

made_by : (ls : List Located) (w : Path) (u : Step) (y : Path) → is_made ls (w ++ u ∷ y) ≡ true
    → list_any (λ l. begins (w ++ u ∷ y) l.path) ls ≡ true
made_by ls [] u y e = e
made_by ls (v ∷ w) u y e = e

-- the step after a beginning of keys is a key
key_in : (ks : KeyTexts) (y : Path) (s : Step) → begins (y ++ s ∷ []) (steps_of ks) ≡ true → (k : List ℕ) × (s ≡ key k)
key_in [] [] s on = absurd (false≢true on)
key_in [] (t ∷ y) s on = absurd (false≢true on)
key_in (l ∷ ks) [] s on = (l, step_is s (key l) (and_parts _ _ on).0)
key_in (l ∷ ks) (t ∷ y) s on = key_in ks y s (and_parts _ _ on).1

-- what a path tells nothing of that goes on elsewhere
along_apart : (w q : Path) (s : Step) (r : Path) (f : Origins) → begins w q ≡ false → begins (q ++ s ∷ []) w ≡ false
    → along w f (q ++ s ∷ r) ≡ None
along_apart [] q s r f not back = absurd (false≢true (sym not))
along_apart (t ∷ w) [] s r f not back = grind arith
along_apart (t ∷ w) (u ∷ q) s r f not back = grind (arith, turn_eq t u, along_apart w q s r f)

-- What rows put below a key that no header names or passes through, of a table that headers made: rows of the same
-- section put something at that key, too.
pub record Entry (ls : List Located) (q : Path) (s : Step) (l : Located) (m : ℕ) : Type 0 where
  pub key_is : (k : List ℕ) × (s ≡ key k)
  pub told : Told m (sections_origins 0 ls (q ++ s ∷ []))
  pub before : (y : Path) × (q ≡ l.path ++ y)

-- a list in which no two sections clash, and a step that no header takes on from where some go
module _ (ls : List Located) (apart : any_pair clashes ls ≡ false)
    (keyed : list_all (λ l. keyed_within l.section.rows) ls ≡ true) (q : Path) (s : Step)
    (made : is_made ls q ≡ true) (not : list_any (λ l. begins (q ++ s ∷ []) l.path) ls ≡ false) where
  -- some row of the section goes over the step
  record Passes (l : Located) : Type 0 where
    y : Path
    at : q ≡ l.path ++ y
    over : Over l.path l.section.rows y s

  gone_on : {l : Located} → Among l ls → (y : Path) → q ≡ l.path ++ y → GoneOn l.path l.section.rows y
  gone_on a [] at = inl refl
  gone_on {l = l} a (u ∷ y) at =
      let j = any_of (λ j. begins (l.path ++ u ∷ y) j.path) ls (made_by ls l.path u y (rw at at made)) in
      inr (
        j.0,
        j.2,
        elim (pairs_apart apart a j.1) [
          | inl same ↦ absurd (no_longer l.path u y (rw (← same) at j.2))
          | inr one ↦ (or_parts _ _ (or_parts _ _ one).1).1
        ],
      )

  way : (l : Located) (y : Path) → q ≡ l.path ++ y → (r : Path) (f : Origins)
      → along l.path f (q ++ s ∷ r) ≡ f (y ++ s ∷ r)
  way l y at r f = rw (at, append_assoc l.path y (s ∷ r)) (along_on l.path (y ++ s ∷ r) f)

  passes : {l : Located} → Among l ls
      → ((n : ℕ) (r : Path) → along l.path (rows_origins n l.section.rows) (q ++ s ∷ r) ≡ None) ⊎ Passes l
  passes {l = l} a = elim (cases_Bool (begins l.path q)) [
    | inl on ↦
        let y = drop (length l.path) q in
        let at = goes_by l.path q on in
        elim (rows_over l.path l.section.rows y s (all_pass (λ l. keyed_within l.section.rows) keyed a)
        (gone_on a y at)) [
          | inl none ↦ inl (λ n r. way l y at r (rows_origins n l.section.rows) ∙ none n r)
          | inr over ↦ inr (record { y = y; at = at; over = over })
        ]
    | inr off ↦
        let back = none_passes (λ l. begins (q ++ s ∷ []) l.path) not a in
        inl (λ n r. along_apart l.path q s r (rows_origins n l.section.rows) off back)
  ]

  -- two of them
  never_two : (i j : Located) → Passes i → Passes j → clashes i j ≡ false → ⊥
  never_two i j one two free = elim (compare i.path one.y j.path two.y (sym one.at ∙ two.at)) [
    | inl on ↦ further_clashes i j one.y two.y s on one.over (or_parts _ _ free).0
    | inr on ↦ further_clashes j i two.y one.y s on two.over (or_parts _ _ free).1
  ]

  first_told : (n : ℕ) (later : List Located) → any_pair clashes later ≡ false
      → ((j : Located) → Among j later → Among j ls) → (m : ℕ) (l : Located) → slice_get later m ≡ Some l → Passes l
      → (k : ℕ) → n + m ≡ k → Told k (sections_origins n later (q ++ s ∷ []))
  first_told n [] free within m l there one k is = absurd (cc)
  first_told n (i ∷ later) free within zero l there one k is =
      let same : i ≡ l = cc in
      let first : n ≡ k = omega arith in
      let told = one.over.told k in
      rw (first, same, way l one.y one.at [] (rows_origins k l.section.rows), told.1) (told.0, refl, told.2, told.3)
  first_told n (i ∷ later) free within (suc m) l there one k is = elim (passes (within i first)) [
    | inl none ↦
        rw (none n []) (first_told (suc n) later (or_parts _ _ free).1 (λ j a. within j (next a)) m l there one k
        (omega arith))
    | inr other ↦
        absurd (never_two i l other one (none_passes (clashes i) (or_parts _ _ free).0 (among_at later m l there)))
  ]

  pub entry_at : (m : ℕ) (l : Located) → slice_get ls m ≡ Some l → (r : Path)
      → is_some (along l.path (rows_origins 0 l.section.rows) (q ++ s ∷ r)) ≡ true → Entry ls q s l m
  entry_at m l there r some = elim (passes (among_at ls m l there)) [
    | inl none ↦ absurd (false≢true (rw (none 0 r) at some))
    | inr one ↦ record {
      key_is = key_in one.over.keys one.y s one.over.on;
      told = first_told 0 ls apart (λ j a. a) m l there one m (omega arith);
      before = (one.y, one.at);
    }
  ]
