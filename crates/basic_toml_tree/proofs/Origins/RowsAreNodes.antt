-- What the rows of sections bring into the tree is what the section list says of it.
use Rattle.std.proofs.Common.{◌≡◌, ◌⊎◌, inl, inr, ℕ, zero, suc, Bool, true, false, List, [], ◌∷◌, ◌++◌, Option, Some}
use Rattle.std.proofs.Common.{None, refl, ap, sym, length, drop, slice_get, option_map, arith}
use Rattle.std.specs.Prelude.{if◌then◌else◌}
use Rattle.std.specs.List.{list_any, list_all}
use Rattle.std.specs.Option.{option_or}
use Rattle.std.proofs.lemmas.Bool.{false≢true, and_parts, or_parts, cases_Bool, and_right}
use Rattle.basic_toml_grammar.specs.Sections.{Key, KeyTexts, texts, Raw, Elements, no_elements, element}
use Rattle.basic_toml_grammar.specs.Sections.{Rows, no_rows, row}
use Rattle.basic_toml_grammar.specs.Steps.{Step, key, number, Path, step_eq, begins, overlap, steps_of}
use Rattle.basic_toml_grammar.specs.RowClash.{any_overlaps, rows_clash, value_clashes, elements_clash}
use Rattle.basic_toml_grammar.specs.IndexedPath.{Located}
use Rattle.basic_toml_grammar.specs.Entering.{keyed_within, value_keyed, elements_keyed}
use Rattle.basic_toml_grammar.specs.NamedClash.{first_key}
use Rattle.basic_toml_grammar.specs.Nodes.{Node, front, holder_in, node_in, node_among, node_by}
use Rattle.basic_toml_grammar.specs.Nodes.{node_of_rows, node_of_sections}
use Rattle.basic_toml_grammar.proofs.Clash.ClashesAgree.{turn_eq}
use Rattle.basic_toml_grammar.proofs.Clash.StepTestsDecide.{step_is, step_same}
use Rattle.basic_toml_grow.specs.Origins.{Origin, Origins, or_else, under, table_origin, along}
use Rattle.basic_toml_grow.specs.Origins.{row_origins, value_origins, elements_origins, rows_origins}
use Rattle.basic_toml_grow.specs.Ways.{sections_origins}
use Rattle.basic_toml_grow.proofs.Origins.OriginsSeen.{or_none}

-- what both tell
pub record Told : Type 0 where
  pub made : Bool
  pub name : List ℕ
  pub start : Option ℕ
  pub slice : Bool

abbrev pub of_node : Node → Told
of_node n = record { made = false; name = n.type_name; start = n.start; slice = n.is_slice }

abbrev pub of_origin : Origin → Told
of_origin o = record { made = o.made; name = o.name; start = Some o.start; slice = o.is_slice }

abbrev pub Same : Option Node → Option Origin → Type 0
Same n o = option_map of_node n ≡ option_map of_origin o

-- a row, by how its keys begin a path
abbrev by_keys : Path → Origin → Origins → Path → Option Origin
by_keys steps o f p = if begins steps p then f (drop (length steps) p) else if begins p steps then Some o else None

keys_begin : (ks : KeyTexts) (o : Origin) (f : Origins) (r : Step) (q : Path)
    → row_origins ks o f (r ∷ q) ≡ by_keys (steps_of ks) o f (r ∷ q)
keys_begin [] o f r q = refl
keys_begin (k ∷ l ∷ ls) o f r (t ∷ p) = grind (arith, turn_eq (key k) r, keys_begin (l ∷ ls) o f t p)
keys_begin (k ∷ ks) o f r q = grind (arith, turn_eq (key k) r)

-- so it is on from a path
pub keys_along : (w : Path) (ks : KeyTexts) (o : Origin) (f : Origins) (p : Path) → begins p w ≡ false
    → along w (row_origins ks o f) p ≡ by_keys (w ++ steps_of ks) o f p
keys_along w ks o f [] not = absurd (false≢true (sym not))
keys_along [] ks o f (r ∷ q) not = keys_begin ks o f r q
keys_along (s ∷ w) ks o f (t ∷ p) not = grind (arith, turn_eq s t, keys_along w ks o f p)

along_is : (w p : Path) (f : Origins) → along w f p ≡ (if begins w p then f (drop (length w) p) else None)
along_is [] p f = refl
along_is (s ∷ w) [] f = refl
along_is (s ∷ w) (t ∷ p) f = grind (arith, turn_eq s t, along_is w p f)

pub along_or : (w : Path) (f g : Origins) (p : Path) → along w (or_else f g) p ≡ option_or (along w f p) (along w g p)
along_or w f g p = rw (along_is w p (or_else f g), along_is w p f, along_is w p g) (grind arith)

-- a path that goes on from another one
pub begins_on : (w steps x : Path) → begins (w ++ steps) (w ++ x) ≡ begins steps x
begins_on [] steps x = refl
begins_on (s ∷ w) steps x = rw step_same (begins_on w steps x)

pub goes_on : (p x q : Path) → begins p x ≡ true → begins x q ≡ true → begins p q ≡ true
goes_on [] x q a b = refl
goes_on (s ∷ p) (t ∷ x) (u ∷ q) a b = grind (arith, step_is s t, goes_on p x q)
goes_on p x q a b = absurd (cc)

-- what the one begins, the other does not, where they do not overlap
pub neither_begins : (p q x : Path) → begins p x ≡ true → overlap p q ≡ false
    → (begins q x ≡ false) × (begins x q ≡ false)
neither_begins (s ∷ p) (t ∷ q) (u ∷ x) here apart =
    let on = neither_begins p q x in
    (grind (arith, step_is s u, turn_eq u t, on), grind (arith, step_is s u, turn_eq u t, on))
neither_begins p q x here apart = absurd (cc)

-- below the value of a row no later row brings anything
none_later : (s : ℕ) (w steps : Path) (rows : Rows) (p : Path) → begins p w ≡ false → begins (w ++ steps) p ≡ true
    → any_overlaps steps rows ≡ false → along w (rows_origins s rows) p ≡ None
none_later s w steps no_rows p back here apart = rw along_is (grind arith)
none_later s w steps (row ks at v rows) p back here apart =
    let others = steps_of (texts ks) in
    let apart = or_parts (overlap steps others) (any_overlaps steps rows) apart in
    let off = neither_begins (w ++ steps) (w ++ others) p here
    (rw (begins_on w steps others, begins_on w others steps) apart.0) in
    rw (along_or, keys_along w (texts ks) (table_origin false at s) (value_origins s at v) p back, off.0, off.1)
    (none_later s w steps rows p back here apart.1)

-- one of three: below the value, a table on the way to it, or in a later row
chosen : (a b : Bool) (m n : Option Node) (o p : Option Origin) (d : Node) (e : Origin)
    → Same m o → Same (Some d) (Some e) → Same n p → (a ≡ true → p ≡ None)
    → Same (if a then m else if b then Some d else n) (option_or (if a then o else if b then Some e else None) p)
chosen a b m n o p d e value table later none = grind (arith, or_none o)

-- a row brings the same where its value and the rows after it do
row_same : (s at : ℕ) (ks : List Key) (v : Raw) (rows : Rows) (w p : Path) (m n : Option Node) (d : Node)
    → begins p w ≡ false → rows_clash (row ks at v rows) ≡ false → keyed_within (row ks at v rows) ≡ true
    → Same (Some d) (Some (table_origin false at s))
    → (value_clashes v ≡ false → value_keyed v ≡ true
    → Same m (value_origins s at v (drop (length (w ++ steps_of (texts ks))) p)))
    → (rows_clash rows ≡ false → keyed_within rows ≡ true → Same n (along w (rows_origins s rows) p))
    → Same (if begins (w ++ steps_of (texts ks)) p then m
    else if begins p (w ++ steps_of (texts ks)) then Some d else n) (along w (rows_origins s (row ks at v rows)) p)
row_same s at ks v rows w p m n d back apart keyed table value later =
    let steps = steps_of (texts ks) in
    rw (along_or, keys_along w (texts ks) (table_origin false at s) (value_origins s at v) p back)
    (chosen (begins (w ++ steps) p) (begins p (w ++ steps)) m n _ _ d (table_origin false at s)
    (value (grind arith) (grind arith)) table (later (or_parts _ _ apart).1 (and_parts _ _ keyed).1)
    (λ here. none_later s w steps rows p back here (or_parts _ _ (or_parts _ _ apart).0).0))

-- rows with keys bring nothing to numbers
no_numbers : (s : ℕ) (rows : Rows) (n : ℕ) (p : Path) → keyed_within rows ≡ true
    → rows_origins s rows (number n ∷ p) ≡ None
no_numbers s no_rows n p keyed = refl
no_numbers s (row [] at v rows) n p keyed = absurd (false≢true keyed)
no_numbers s (row (k ∷ ks) at v rows) n p keyed = grind (arith, no_numbers s rows n p)

mutual
  value_same : (keys : KeyTexts) (outer : Option ℕ) (s at : ℕ) (v : Raw) (p : Path) → value_clashes v ≡ false
      → value_keyed v ≡ true → Same (node_in keys outer at v p) (value_origins s at v p)
  value_same keys outer s at (Raw.array es) (number n ∷ p) apart keyed = among_same keys outer s es n p apart keyed
  value_same keys outer s at (Raw.inline rows) (number n ∷ p) apart keyed =
      sym (ap (option_map of_origin) (no_numbers s rows n p keyed))
  value_same keys outer s at (Raw.inline rows) (key k ∷ p) apart keyed =
      by_same keys (Some at) s rows rows (key k) p apart keyed
  value_same keys outer s at v [] apart keyed = refl
  value_same keys outer s at v (key k ∷ p) apart keyed = refl
  value_same keys outer s at v p apart keyed = refl

  among_same : (keys : KeyTexts) (outer : Option ℕ) (s : ℕ) (es : Elements) (n : ℕ) (p : Path)
      → elements_clash es ≡ false → elements_keyed es ≡ true
      → Same (node_among keys outer es n p) (under (slice_get (elements_origins s es) n) p)
  among_same keys outer s no_elements n p apart keyed = refl
  among_same keys outer s (element at v es) zero p apart keyed =
      value_same keys outer s at v p (or_parts _ _ apart).0 (and_parts _ _ keyed).0
  among_same keys outer s (element at v es) (suc n) p apart keyed =
      among_same keys outer s es n p (or_parts _ _ apart).1 (and_parts _ _ keyed).1

  by_same : (keys : KeyTexts) (outer : Option ℕ) (s : ℕ) (all rows : Rows) (r : Step) (q : Path)
      → rows_clash rows ≡ false → keyed_within rows ≡ true
      → Same (node_by keys outer all rows (r ∷ q)) (rows_origins s rows (r ∷ q))
  by_same keys outer s all no_rows r q apart keyed = refl
  by_same keys outer s all (row ks at v rows) r q apart keyed =
      row_same s at ks v rows [] (r ∷ q) _ _ _ refl apart keyed refl
      (value_same keys (holder_in outer all (front (steps_of (texts ks)))) s at v _) (by_same keys outer s all rows r q)

pub begins_front : (p r q : Path) → begins (p ++ r) q ≡ true → begins p q ≡ true
begins_front [] r q e = refl
begins_front (s ∷ p) r [] e = absurd (false≢true e)
begins_front (s ∷ p) r (t ∷ q) e = grind (arith, begins_front p r q)

pub along_on : (w x : Path) (f : Origins) → along w f (w ++ x) ≡ f x
along_on [] x f = refl
along_on (s ∷ w) x f = rw step_same (along_on w x f)

-- rows of a section, apart from its table
module _ (ls : List Located) (last : Option ℕ) (l : Located) (n : ℕ) where
  apart_after : (w steps p : Path) → begins w p ≡ false → begins p w ≡ false → begins p (w ++ steps) ≡ false
  apart_after (s ∷ w) steps (t ∷ p) not back = grind (arith, turn_eq s t, apart_after w steps p)
  apart_after w steps p not back = absurd (cc)

  pub rows_apart : (rows : Rows) (p : Path) → begins l.path p ≡ false → begins p l.path ≡ false
      → node_of_rows ls last l rows p ≡ None
  rows_apart no_rows p not back = refl
  rows_apart (row ks at v rows) p not back =
      let steps = steps_of (texts ks) in
      grind (arith, begins_front l.path steps p, apart_after l.path steps p not back, rows_apart rows p not back)

  -- a path goes on from the other, or is apart from it
  pub goes_from : (w p : Path) → begins p w ≡ false
      → ((r : Step) × (q : Path) × (p ≡ w ++ r ∷ q)) ⊎ (begins w p ≡ false)
  goes_from [] [] back = absurd (false≢true (sym back))
  goes_from [] (r ∷ q) back = inl (r, q, refl)
  goes_from (s ∷ w) [] back = inr refl
  goes_from (s ∷ w) (t ∷ p) back = elim (cases_Bool (step_eq t s)) [
    | inl e ↦ elim (goes_from w p (rw e at back)) [
      | inl x ↦ inl (x.0, x.1, cc (step_is t s e, x.2))
      | inr other ↦ inr (and_right (step_eq s t) (begins w p) other)
    ]
    | inr e ↦ inr (rw (turn_eq s t, e) refl)
  ]

  rows_same : (rows : Rows) (p : Path) → begins p l.path ≡ false → rows_clash rows ≡ false → keyed_within rows ≡ true
      → Same (node_of_rows ls last l rows p) (along l.path (rows_origins n rows) p)
  rows_same no_rows p back apart keyed = rw along_is (grind arith)
  rows_same (row ks at v rows) p back apart keyed =
      row_same n at ks v rows l.path p _ _ _ back apart keyed refl
      (value_same (texts l.section.header ++ first_key ks) _ n at v _) (rows_same rows p back)

  pub section_same : (p : Path) → begins p l.path ≡ false → rows_clash l.section.rows ≡ false
      → keyed_within l.section.rows ≡ true
      → Same (node_of_rows ls last l l.section.rows p) (along l.path (rows_origins n l.section.rows) p)
  section_same p = rows_same l.section.rows p

pub sections_same : (ls : List Located) (last : Option ℕ) (n : ℕ) (later : List Located) (p : Path)
    → list_any (λ l. begins p l.path) later ≡ false → list_any (λ l. rows_clash l.section.rows) later ≡ false
    → list_all (λ l. keyed_within l.section.rows) later ≡ true
    → Same (node_of_sections ls last later p) (sections_origins n later p)
sections_same ls last n [] p back apart keyed = refl
sections_same ls last n (l ∷ later) p back apart keyed =
    let b = or_parts (begins p l.path) (list_any (λ l. begins p l.path) later) back in
    let a = or_parts (rows_clash l.section.rows) (list_any (λ l. rows_clash l.section.rows) later) apart in
    let k = and_parts (keyed_within l.section.rows) (list_all (λ l. keyed_within l.section.rows) later) keyed in
    grind (arith, section_same ls last l n p b.0 a.0 k.0, sections_same ls last (suc n) later p b.1 a.1 k.1)
