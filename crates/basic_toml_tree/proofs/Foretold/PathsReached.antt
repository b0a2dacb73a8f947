-- Where the tree of mentions has data at a path, a mention leads there: it goes on from the path, or the path goes on
-- from it into its value. There what rows bring comes from somewhere.
use Rattle.std.proofs.Common.{◌≡◌, ◌+◌, ℕ, zero, suc, Bool, true, false, List, [], ◌∷◌, Option, Some, None, refl, arith}
use Rattle.std.proofs.Common.{inl, inr, ◌++◌, drop, length}
use Rattle.std.specs.Prelude.{◌||◌, if◌then◌else◌, is_some, slice_get}
use Rattle.std.specs.List.{list_any}
use Rattle.std.specs.Option.{option_and_then}
use Rattle.std.proofs.lemmas.Bool.{false≢true, or_left, or_right, cases_Bool}
use Rattle.basic_toml_value.specs.Data.{Data}
use Rattle.basic_toml_grammar.specs.Sections.{KeyTexts, texts, Rows, no_rows, row, Raw, Elements, no_elements, element}
use Rattle.basic_toml_grammar.specs.Steps.{Step, key, number, Path, step_eq, steps_of, begins}
use Rattle.basic_toml_grammar.specs.Tree.{Mention}
use Rattle.basic_toml_grammar.specs.Growth.{Growth, grown, Branches, no_branches, branch, nothing_grown, shoot, grow}
use Rattle.basic_toml_grammar.specs.Growth.{grow_at, grow_all, closed, closed_branches, members_of, items_of, tree_of}
use Rattle.basic_toml_grammar.specs.Mentions.{finished, row_mentions, finished_elements, section_mentions, mentions}
use Rattle.basic_toml_grammar.specs.Entering.{element_count}
use Rattle.basic_toml_grammar.specs.Trie.{Trie, trie, Tries, no_tries, by, bare, bare_tries}
use Rattle.basic_toml_grammar.proofs.Clash.ClashesAgree.{turn_eq}
use Rattle.basic_toml_grammar.proofs.Clash.StepTestsDecide.{step_is}
use Rattle.basic_toml_grammar.proofs.Tries.NumbersInTurn as tries
use Rattle.basic_toml_tree.specs.Nodes.{data_among, listed}
use Rattle.basic_toml_tree.specs.Paths.{data_along}
use Rattle.std.proofs.lemmas.List.Folds.{list_any-append}
use Rattle.basic_toml_grammar.specs.IndexedPath.{Located}
use Rattle.basic_toml_grow.specs.Origins.{Origins, under, table_origin, along, row_origins, value_origins}
use Rattle.basic_toml_grow.specs.Origins.{elements_origins, rows_origins}
use Rattle.basic_toml_grow.specs.Ways.{sections_origins}
use Rattle.basic_toml_tree.proofs.Origins.RowsAreNodes.{keys_along, along_or}

-- the numbers among the branches are those from the first on, and so at each node
abbrev mutual
  pub InTurn : Growth → Type 0
  InTurn (grown v bs) = Counts 0 bs

  pub Counts : ℕ → Branches → Type 0
  Counts j no_branches = Unit {0}
  Counts j (branch (key k) g bs) = InTurn g × Counts j bs
  Counts j (branch (number i) g bs) = (i ≡ j) × InTurn g × Counts (suc j) bs

-- so it is of a trie that sections went into
mutual
  pub bare_in_turn : (t : Trie) → tries.InTurn t → InTurn (bare t)
  bare_in_turn (trie s v ts) h = bare_counts 0 (element_count s) ts h

  bare_counts : (j n : ℕ) (ts : Tries) → tries.Counts j n ts → Counts j (bare_tries ts)
  bare_counts j n no_tries h = tt
  bare_counts j n (by (key k) t ts) h = (bare_in_turn t h.0, bare_counts j n ts h.1)
  bare_counts j n (by (number i) t ts) h = (h.0, bare_in_turn t h.1, bare_counts (suc j) n ts h.2)

-- and of rows, which have keys alone
shoot_keys : (ks : KeyTexts) (v : Option Data) → InTurn (shoot (steps_of ks) v)
shoot_keys [] v = tt
shoot_keys (k ∷ ks) v = (shoot_keys ks v, tt)

mutual
  grow_keys : (ks : KeyTexts) (v : Option Data) (g : Growth) → InTurn g → InTurn (grow g (steps_of ks) v)
  grow_keys [] v (grown o bs) h = h
  grow_keys (k ∷ ks) v (grown o bs) h = grow_at_key k ks v 0 bs h

  grow_at_key : (k : List ℕ) (ks : KeyTexts) (v : Option Data) (j : ℕ) (bs : Branches) → Counts j bs
      → Counts j (grow_at bs (key k) (steps_of ks) v)
  grow_at_key k ks v j no_branches h = (shoot_keys ks v, tt)
  grow_at_key k ks v j (branch (number i) g bs) h = (h.0, h.1, grow_at_key k ks v (suc j) bs h.2)
  grow_at_key k ks v j (branch (key l) g bs) h = elim (cases_Bool (step_eq (key l) (key k))) [
    | inl here ↦ rw here (grow_keys ks v g h.0, h.1)
    | inr other ↦ rw other (h.0, grow_at_key k ks v j bs h.1)
  ]

grow_rows : (rows : Rows) (g : Growth) → InTurn g → InTurn (grow_all g (row_mentions [] rows))
grow_rows no_rows g h = h
grow_rows (row keys at v rows) g h =
    grow_rows rows (grow g (steps_of (texts keys)) (Some (finished v))) (grow_keys (texts keys) (Some (finished v)) g h)

-- a path that branches lead along, or that ends in a value on the way
abbrev mutual
  reaches : Growth → Path → Bool
  reaches (grown o bs) [] = true
  reaches (grown (Some v) bs) (s ∷ p) = is_some (data_along (s ∷ p) v)
  reaches (grown None bs) (s ∷ p) = reaches_by bs s p

  reaches_by : Branches → Step → Path → Bool
  reaches_by no_branches s p = false
  reaches_by (branch t g bs) s p = if step_eq t s then reaches g p else reaches_by bs s p

-- what stands at a step among branches
abbrev among_branches : Step → Branches → Option Data
among_branches (key k) bs = data_among (members_of bs) k
among_branches (number n) bs = slice_get (listed (items_of bs)) n

by_step : (bs : Branches) (s : Step) (p : Path) → is_some (data_along (s ∷ p) (closed_branches bs)) ≡ true
    → is_some (option_and_then (data_along p) (among_branches s bs)) ≡ true
by_step (branch t g bs) s p e = grind arith
by_step no_branches s p e = grind arith

mutual
  closed_reached : (g : Growth) (p : Path) → InTurn g → is_some (data_along p (closed g)) ≡ true → reaches g p ≡ true
  closed_reached (grown o bs) [] h e = refl
  closed_reached (grown (Some v) bs) (s ∷ p) h e = e
  closed_reached (grown None bs) (key k ∷ p) h e = members_reached bs 0 k p h (by_step bs (key k) p e)
  closed_reached (grown None bs) (number n ∷ p) h e =
      items_reached bs 0 n n p (omega arith) h (by_step bs (number n) p e)

  members_reached : (bs : Branches) (j : ℕ) (k : List ℕ) (p : Path) → Counts j bs
      → is_some (option_and_then (data_along p) (data_among (members_of bs) k)) ≡ true → reaches_by bs (key k) p ≡ true
  members_reached no_branches j k p h e = e
  members_reached (branch (number i) g bs) j k p h e = members_reached bs (suc j) k p h.2 e
  members_reached (branch (key l) g bs) j k p h e =
      grind (arith, turn_eq (key l) (key k), closed_reached g p h.0, members_reached bs j k p h.1)

  items_reached : (bs : Branches) (j n m : ℕ) (p : Path) → m ≡ j + n → Counts j bs
      → is_some (option_and_then (data_along p) (slice_get (listed (items_of bs)) n)) ≡ true
      → reaches_by bs (number m) p ≡ true
  items_reached no_branches j n m p is h e = e
  items_reached (branch (key l) g bs) j n m p is h e = items_reached bs j n m p is h.1 e
  items_reached (branch (number i) g bs) j zero m p is h e = grind (arith, is, h.0, closed_reached g p h.1 e)
  items_reached (branch (number i) g bs) j (suc n) m p is h e =
      grind (arith, is, h.0, items_reached bs (suc j) n m p (omega (arith, is)) h.2 e)

-- a mention that leads to a path: it goes on from it, or the path goes on from the mention into its value
abbrev pub leads : Path → Option Data → Path → Bool
leads w None p = begins p w
leads w (Some d) p = if begins w p then is_some (data_along (drop (length w) p) d) else begins p w

abbrev pub any_leads : List Mention → Path → Bool
any_leads ms p = list_any (λ m. leads m.path m.value p) ms

shoot_leads : (w : Path) (v : Option Data) (p : Path) → reaches (shoot w v) p ≡ true → leads w v p ≡ true
shoot_leads (t ∷ w) v (s ∷ p) e = grind (arith, turn_eq t s, shoot_leads w v p)
shoot_leads w v p e = grind arith

mutual
  grow_leads : (g : Growth) (w : Path) (v : Option Data) (p : Path) → reaches (grow g w v) p ≡ true
      → (reaches g p || leads w v p) ≡ true
  grow_leads (grown o bs) w v [] e = refl
  grow_leads (grown None bs) [] (Some d) (s ∷ p) e = or_right _ _ e
  grow_leads (grown None bs) (t ∷ w) v (s ∷ p) e = at_leads bs t w v s p e
  grow_leads (grown (Some d) bs) [] v (s ∷ p) e = or_left _ _ e
  grow_leads g w v p e = or_left _ _ e

  at_leads : (bs : Branches) (t : Step) (w : Path) (v : Option Data) (s : Step) (p : Path)
      → reaches_by (grow_at bs t w v) s p ≡ true → (reaches_by bs s p || leads (t ∷ w) v (s ∷ p)) ≡ true
  at_leads no_branches t w v s p e = shoot_leads (t ∷ w) v (s ∷ p) e
  at_leads (branch r g bs) t w v s p e =
      grind (arith, step_is r t, turn_eq t s, grow_leads g w v p, at_leads bs t w v s p)

all_lead : (ms : List Mention) (g : Growth) (p : Path) → reaches (grow_all g ms) p ≡ true
    → (reaches g p || any_leads ms p) ≡ true
all_lead [] g p e = or_left (reaches g p) (any_leads [] p) e
all_lead (m ∷ ms) g p e = grind (arith, grow_leads g m.path m.value p, all_lead ms (grow g m.path m.value) p e)

pub tree_leads : (ms : List Mention) (s : Step) (p : Path) → InTurn (grow_all nothing_grown ms)
    → is_some (data_along (s ∷ p) (tree_of ms)) ≡ true → any_leads ms (s ∷ p) ≡ true
tree_leads ms s p h e = all_lead ms nothing_grown (s ∷ p) (closed_reached (grow_all nothing_grown ms) (s ∷ p) h e)

abbrev Found : Origins → Path → Type 0
Found f p = is_some (f p) ≡ true

mutual
  value_found : (s at : ℕ) (v : Raw) (p : Path) → is_some (data_along p (finished v)) ≡ true
      → Found (value_origins s at v) p
  value_found s at (Raw.array es) (number n ∷ p) e = element_found s es n p e
  value_found s at (Raw.inline rows) (t ∷ p) e =
      rows_found s [] rows (t ∷ p) refl (tree_leads (row_mentions [] rows) t p (grow_rows rows nothing_grown tt) e)
  value_found s at v [] e = refl
  value_found s at v (key k ∷ p) e = e
  value_found s at v p e = e

  element_found : (s : ℕ) (es : Elements) (n : ℕ) (p : Path)
      → is_some (option_and_then (data_along p) (slice_get (listed (finished_elements es)) n)) ≡ true
      → is_some (under (slice_get (elements_origins s es) n) p) ≡ true
  element_found s no_elements n p e = e
  element_found s (element at v es) zero p e = value_found s at v p e
  element_found s (element at v es) (suc n) p e = element_found s es n p e

  -- rows below a table
  rows_found : (s : ℕ) (w : Path) (rows : Rows) (p : Path) → begins p w ≡ false
      → any_leads (row_mentions w rows) p ≡ true → Found (along w (rows_origins s rows)) p
  rows_found s w no_rows p not e = absurd (false≢true e)
  rows_found s w (row keys at v rows) p not e =
      let steps = w ++ steps_of (texts keys) in
      let f : Origins = value_origins s at v in
      rw (
        along_or w (row_origins (texts keys) (table_origin false at s) f) (rows_origins s rows) p,
        keys_along w (texts keys) (table_origin false at s) f p not,
      )
      (grind (arith, value_found s at v (drop (length steps) p), rows_found s w rows p not))

pub sections_found : (n : ℕ) (ls : List Located) (p : Path) → list_any (λ l. begins p l.path) ls ≡ false
    → any_leads (mentions ls) p ≡ true → Found (sections_origins n ls) p
sections_found n [] p not e = e
sections_found n (l ∷ ls) p not e =
    let marks = section_mentions l.path l.section.rows in
    grind (
      arith,
      list_any-append (λ m. leads m.path m.value p) marks (mentions ls),
      rows_found n l.path l.section.rows p,
      sections_found (suc n) ls p,
    )
