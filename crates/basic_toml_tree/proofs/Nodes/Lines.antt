-- Rows as one list of lines, each with its whole path: which line a path leads to, and where the table around what
-- stands there begins.
use Rattle.std.proofs.Common.{arith, ◌≡◌, ℕ, Bool, true, false, List, [], ◌∷◌, ◌++◌, Option, Some, None, refl, ap, sym}
use Rattle.std.proofs.Common.{◌∙◌, length, drop, ◌⊎◌, inl, inr, ◌&&◌, if◌then◌else◌}
use Rattle.std.specs.List.{list_any}
use Rattle.std.proofs.Math.Bool.{and-false, and-true}
use Rattle.std.proofs.Math.Seq.{drop-append_seam}
use Rattle.std.proofs.lemmas.Bool.{false≢true, or_right, cases_Bool, false_from_ne_true, and_parts}
use Rattle.basic_toml_grammar.specs.Sections.{KeyTexts, Raw}
use Rattle.basic_toml_grammar.specs.Steps.{Step, key, number, Path, begins, overlap, steps_of}
use Rattle.basic_toml_grammar.specs.Nodes.{Node, front, dotted_node, node_in}
use Rattle.basic_toml_grammar.proofs.AmongElements.{Among, first, next}
use Rattle.basic_toml_grammar.proofs.Clash.PathsAgree.{append_none}
use Rattle.basic_toml_grammar.proofs.Clash.StepTestsDecide.{step_is, step_same, begins_itself}
use Rattle.basic_toml_tree.specs.Outer.{no_keys, around}
use Rattle.basic_toml_tree.specs.Stands.{is_root}
use Rattle.basic_toml_tree.proofs.HeadersMake.{of_any}
use Rattle.basic_toml_tree.proofs.Origins.RowsAreNodes.{goes_on}

-- a path that ends with a key
abbrev is_key : Step → Bool
is_key (key k) = true
is_key (number n) = false

abbrev pub ends_key : Path → Bool
ends_key [] = false
ends_key (s ∷ []) = is_key s
ends_key (s ∷ t ∷ p) = ends_key (t ∷ p)

pub begun : (p q : Path) → ends_key p ≡ true → begins p q ≡ true → is_root q ≡ false
begun [] q ends on = absurd (false≢true ends)
begun (s ∷ p) [] ends on = absurd (false≢true on)
begun (s ∷ p) (t ∷ q) ends on = refl

pub keys_end : (base : Path) (k : List ℕ) (ks : KeyTexts) → ends_key (base ++ steps_of (k ∷ ks)) ≡ true
keys_end [] k [] = refl
keys_end [] k (l ∷ ks) = keys_end [] l ks
keys_end (s ∷ []) k ks = keys_end [] k ks
keys_end (s ∷ t ∷ base) k ks = keys_end (t ∷ base) k ks

ends_in_keys : (p base : Path) (ks : KeyTexts) → begins p (base ++ steps_of ks) ≡ true → begins p base ≡ false
    → ends_key p ≡ true
ends_in_keys [] base ks here not = absurd (false≢true (sym not))
ends_in_keys (s ∷ p) [] [] here not = absurd (false≢true here)
ends_in_keys (s ∷ []) [] (k ∷ ks) here not = grind (arith, step_is s (key k))
ends_in_keys (s ∷ t ∷ p) [] (k ∷ ks) here not = grind (arith, ends_in_keys (t ∷ p) [] ks)
ends_in_keys (s ∷ []) (b ∷ base) ks here not = grind arith
ends_in_keys (s ∷ t ∷ p) (b ∷ base) ks here not = grind (arith, ends_in_keys (t ∷ p) base ks)

some_key : (p : Path) → ends_key p ≡ true → no_keys p ≡ false
some_key [] e = absurd (false≢true e)
some_key (key k ∷ p) e = refl
some_key (number n ∷ []) e = absurd (false≢true e)
some_key (number n ∷ t ∷ p) e = some_key (t ∷ p) e

keys_both : (p x : Path) → no_keys (p ++ x) ≡ (no_keys p && no_keys x)
keys_both [] x = refl
keys_both (key k ∷ p) x = refl
keys_both (number n ∷ p) x = keys_both p x

around_front : (p x : Path) → ends_key p ≡ true → no_keys x ≡ true → around (p ++ x) ≡ front p
around_front [] x e none = absurd (false≢true e)
around_front (s ∷ []) x e none = rw none refl
around_front (s ∷ t ∷ p) x e none = grind (arith, keys_both (t ∷ p) x, some_key (t ∷ p) e, around_front (t ∷ p) x)

around_on : (p x : Path) → no_keys x ≡ false → around (p ++ x) ≡ p ++ around x
around_on [] x e = refl
around_on (s ∷ p) x e = rw (keys_both p x, e, and-false (no_keys p)) (ap (λ q. s ∷ q) (around_on p x e))

around_begins : (p : Path) → begins (around p) p ≡ true
around_begins [] = refl
around_begins (s ∷ p) = grind (arith, step_same s, around_begins p)

-- a step on from a path
pub around_key : (p : Path) (k : List ℕ) → around (p ++ key k ∷ []) ≡ p
around_key p k = around_on p (key k ∷ []) refl ∙ append_none p

pub around_number : (p : Path) (n : ℕ) → around (p ++ number n ∷ []) ≡ around p
around_number [] n = refl
around_number (s ∷ p) n = rw (keys_both p (number n ∷ []), and-true (no_keys p), around_number p n) refl

front_begins : (p : Path) → begins (front p) p ≡ true
front_begins [] = refl
front_begins (s ∷ []) = refl
front_begins (s ∷ t ∷ p) = rw step_same (front_begins (t ∷ p))

front_short : (p : Path) → ends_key p ≡ true → begins p (front p) ≡ false
front_short [] e = absurd (false≢true e)
front_short (s ∷ []) e = refl
front_short (s ∷ t ∷ p) e = rw step_same (front_short (t ∷ p) e)

pub goes_by : (p q : Path) → begins p q ≡ true → q ≡ p ++ drop (length p) q
goes_by [] q e = refl
goes_by (s ∷ p) [] e = absurd (false≢true e)
goes_by (s ∷ p) (t ∷ q) e = grind (arith, step_is s t, goes_by p q)

pub no_longer : (w : Path) (u : Step) (y : Path) → begins (w ++ u ∷ y) w ≡ true → ⊥
no_longer [] u y e = false≢true e
no_longer (s ∷ w) u y e = no_longer w u y (and_parts _ _ e).1

-- a row, with the path of its table
pub record Line : Type 0 where
  pub base : Path
  pub steps : KeyTexts
  pub at : ℕ
  pub value : Raw
  pub names : KeyTexts

abbrev pub path_of : Line → Path
path_of e = e.base ++ steps_of e.steps

abbrev pub choose : (Path → Option ℕ) → List Line → Path → Option Node
choose holder [] p = None
choose holder (e ∷ es) p =
    if begins (path_of e) p then
    node_in e.names (holder (front (path_of e))) e.at e.value (drop (length (path_of e)) p)
    else if begins p (path_of e) then Some (dotted_node e.names (holder (front p)) e.at)
    else choose holder es p

abbrev pub start_among : List Line → Path → Option ℕ
start_among [] p = None
start_among (e ∷ es) p = if begins p (path_of e) then Some e.at else start_among es p

-- what is told of the nodes in a value: with no key on the way the outer offset is that of the value, else the table
-- around begins there
abbrev pub OuterOf : (Path → Option Node) → Option ℕ → Path → Node → Type 0
OuterOf nodes outer x n =
    ((no_keys x ≡ true) × (n.outer_offset ≡ outer))
    ⊎ ((no_keys x ≡ false) × (m : Node) × (nodes (around x) ≡ Some m) × (n.outer_offset ≡ m.start))

abbrev pub ValueOuter : Raw → Type 0
ValueOuter v =
    (names : KeyTexts) (outer : Option ℕ) (at : ℕ) (x : Path) (n : Node) → node_in names outer at v x ≡ Some n
    → OuterOf (node_in names outer at v) outer x n

-- what is known of a line, and of a path that does not lead to or through its table
pub record Fits (p : Path) (e : Line) : Type 0 where
  pub ends : ends_key (path_of e) ≡ true
  pub told : ValueOuter e.value
  pub off : begins p e.base ≡ false

-- no line is in the way of a later one
abbrev pub Free : Line → List Line → Type 0
Free e es = (f : Line) → Among f es → overlap (path_of e) (path_of f) ≡ false

pub data Apart : List Line → Type 0 where
  none : Apart []
  more : {e : Line} {es : List Line} → Free e es → Apart es → Apart (e ∷ es)

-- where no element passes, none of them does
pub none_passes : {A : Type 0} {x : A} {xs : List A} (f : A → Bool) → list_any f xs ≡ false → Among x xs → f x ≡ false
none_passes f free a = false_from_ne_true _ (λ e. false≢true (sym free ∙ of_any f a e))

-- the node of a path, and the table around it: below a line, or on the way to one
pub data Found (holder : Path → Option ℕ) (p : Path) (es : List Line) (n : Node) : Type 0 where
  within : (m : Node) (e : Line) → Among e es → ends_key (path_of e) ≡ true → begins (path_of e) (around p) ≡ true
      → choose holder es (around p) ≡ Some m → n.outer_offset ≡ m.start → Found holder p es n
  by_rows : (m : Node) → choose holder es (around p) ≡ Some m → m.start ≡ start_among es (around p)
      → n.outer_offset ≡ holder (around p) → Found holder p es n

module _ (holder : Path → Option ℕ) (p : Path) where
  off : (e : Line) → begins (path_of e) p ≡ false → begins (path_of e) (around p) ≡ false
  off e not = grind (arith, goes_on (path_of e) (around p) p, around_begins p)

  -- an earlier line, which the path does not meet
  later : (e : Line) (es : List Line) (n : Node) → begins (path_of e) p ≡ false → Free e es
      → Found holder p es n → Found holder p (e ∷ es) n
  later e es n not free (within m f a ends here chosen same) =
      let apart = false_from_ne_true _ (λ x. false≢true (sym (free f a)
      ∙ or_right _ _ (goes_on (path_of f) (around p) (path_of e) here x))) in
      within m f (next a) ends here (rw (off e not, apart) chosen) same
  later e es n not free (by_rows m chosen start same) = elim (cases_Bool (begins (around p) (path_of e))) [
    | inl x ↦ by_rows (dotted_node e.names (holder (front (around p))) e.at) (rw (off e not, x) refl) (rw x refl) same
    | inr x ↦ by_rows m (rw (off e not, x) chosen) (rw x start) same
  ]

  -- the line of the value that the path leads into
  here : (e : Line) (es : List Line) (n : Node) → begins (path_of e) p ≡ true → Fits p e
      → node_in e.names (holder (front (path_of e))) e.at e.value (drop (length (path_of e)) p) ≡ Some n
      → Found holder p (e ∷ es) n
  here e es n on line is =
      let x : Path = drop (length (path_of e)) p in
      let goes : p ≡ path_of e ++ drop (length (path_of e)) p = goes_by (path_of e) p on in
      elim (line.told e.names (holder (front (path_of e))) e.at x n is) [
        | inl o ↦
            let there : around p ≡ front (path_of e) = ap around goes ∙ around_front (path_of e) x line.ends o.0 in
            let short : begins (path_of e) (around p) ≡ false = rw there (front_short (path_of e) line.ends) in
            let long : begins (around p) (path_of e) ≡ true = rw there (front_begins (path_of e)) in
            by_rows (dotted_node e.names (holder (front (around p))) e.at) (rw (short, long) refl) (rw long refl)
            (o.1 ∙ ap holder (sym there))
        | inr o ↦
            let there : around p ≡ path_of e ++ around x = ap around goes ∙ around_on (path_of e) x o.0 in
            let under : begins (path_of e) (around p) ≡ true = rw there (begins_itself (path_of e) (around x)) in
            let left : drop (length (path_of e)) (around p) ≡ around x =
            rw there (drop-append_seam (path_of e) (around x)) in
            within o.1 e first line.ends under (rw (under, left) o.2) o.3
      ]

  -- a line that goes on from the path
  crossing : (e : Line) (es : List Line) → begins (path_of e) p ≡ false → begins p (path_of e) ≡ true
      → begins p e.base ≡ false → Found holder p (e ∷ es) (dotted_node e.names (holder (front p)) e.at)
  crossing e es not on apart =
      let there : around p ≡ front p =
      rw append_none at (around_front p [] (ends_in_keys p e.base e.steps on apart) refl) in
      let long : begins (around p) (path_of e) ≡ true = goes_on (around p) p (path_of e) (around_begins p) on in
      by_rows (dotted_node e.names (holder (front (around p))) e.at) (rw (off e not, long) refl) (rw long refl)
      (ap holder (sym there))

  pub found : (es : List Line) → Apart es → ((e : Line) → Among e es → Fits p e) → (n : Node)
      → choose holder es p ≡ Some n → Found holder p es n
  found [] free fits n is = absurd (cc)
  found (e ∷ es) (Apart.more free rest) fits n is =
      elim (cases_Bool (begins (path_of e) p)) [
        | inl x ↦ here e es n x (fits e first) (rw x at is)
        | inr x ↦ elim (cases_Bool (begins p (path_of e))) [
          | inl y ↦
              let same : dotted_node e.names (holder (front p)) e.at ≡ n = cc (rw (x, y) at is) in
              rw (← same) (crossing e es x y (fits e first).off)
          | inr y ↦ later e es n x free (found es rest (λ f a. fits f (next a)) n (rw (x, y) at is))
        ]
      ]
