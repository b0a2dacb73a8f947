-- A value whose offset is behind those of some values is not found among these, and one is found past them.
use Rattle.std.proofs.Common.{◌≡◌, ℕ, suc, ◌<◌, ◌≤◌, List, [], ◌∷◌, ◌++◌, length, take, Option, Some, None, refl}
use Rattle.std.proofs.Common.{ap, arith}
use Rattle.std.specs.Prelude.{option_map}
use Rattle.std.specs.Option.{option_or}
use Rattle.std.proofs.lemmas.Bool.{ne_eqb, eq-eqb}
use Rattle.basic_toml_grammar.specs.Sections.{Key, texts, Raw, Elements, no_elements, element, Rows, no_rows, row}
use Rattle.basic_toml_grammar.specs.Steps.{key, Path, steps_of}
use Rattle.basic_toml_grammar.specs.Nodes.{Node}
use Rattle.basic_toml_places.specs.Places.{offsets_within, element_offsets, row_offsets, keys_to_value, here_or}
use Rattle.basic_toml_places.specs.Places.{path_within, path_among, path_by}
use Rattle.basic_toml_places.proofs.OffsetsInOrder.{Between}
use Rattle.basic_toml_places.proofs.PathsLead.{Leads, leads_behind}

pub between_bounds : (n m : ℕ) (xs : List ℕ) → Between n xs m → n ≤ m
between_bounds n m [] b = b
between_bounds n m (x ∷ xs) b = omega (arith, b.0, between_bounds (suc x) m xs b.1)

-- offsets, and then others
pub between_parts : (n m : ℕ) (xs ys : List ℕ) → Between n (xs ++ ys) m → (k : ℕ) × Between n xs k × Between k ys m
between_parts n m [] ys b = (n, omega arith, b)
between_parts n m (x ∷ xs) ys b =
    let more = between_parts (suc x) m xs ys b.1 in
    (more.0, (b.0, more.1), more.2)

-- a value at an offset, those within it up to an end, and then others
pub record Parts (n m at : ℕ) (v : Raw) (later : List ℕ) : Type 0 where
  pub end : ℕ
  pub from : n ≤ at
  pub low : at < end
  pub high : end ≤ m
  pub within : Between (suc at) (offsets_within v) end
  pub behind : Between end later m

pub parts : (n m at : ℕ) (v : Raw) (later : List ℕ) → Between n (at ∷ offsets_within v ++ later) m
    → Parts n m at v later
parts n m at v later b =
    let r = between_parts (suc at) m (offsets_within v) later b.1 in
    record {
      end = r.0;
      from = b.0;
      low = between_bounds (suc at) r.0 (offsets_within v) r.1;
      high = between_bounds r.0 m later r.2;
      within = r.1;
      behind = r.2;
    }

-- the path to the value at an offset: at a row or within its value, in elements, and in rows
abbrev pub row_path : List Key → ℕ → Raw → ℕ → Option Path
row_path keys at v o = here_or (keys_to_value o) keys at (path_within (keys_to_value o) v)

abbrev pub elements_path : ℕ → Elements → ℕ → Option Path
elements_path n es o = path_among (keys_to_value o) n es

abbrev pub rows_path : Rows → ℕ → Option Path
rows_path rows o = path_by (keys_to_value o) rows

-- no value at an offset or behind it
absent_here : (o at : ℕ) (keys : List Key) (within : Option Path) → at < o → within ≡ None
    → here_or (keys_to_value o) keys at within ≡ None
absent_here o at keys within h e = rw (ne_eqb o at (λ e. omega arith)) (rw e refl)

mutual
  absent_within : (o n m : ℕ) (v : Raw) → Between n (offsets_within v) m → m ≤ o
      → path_within (keys_to_value o) v ≡ None
  absent_within o n m (Raw.array es) b h = absent_among o 0 n m es b h
  absent_within o n m (Raw.inline rows) b h = absent_by o n m rows b h
  absent_within o n m (Raw.integer _) b h = refl
  absent_within o n m (Raw.float _) b h = refl
  absent_within o n m (Raw.boolean _) b h = refl
  absent_within o n m (Raw.string _ _) b h = refl

  absent_among : (o i n m : ℕ) (es : Elements) → Between n (element_offsets es) m → m ≤ o
      → elements_path i es o ≡ None
  absent_among o i n m no_elements b h = refl
  absent_among o i n m (element at v es) b h =
      let r = parts n m at v (element_offsets es) b in
      rw (absent_here o at [] (path_within (keys_to_value o) v) (omega arith)
      (absent_within o (suc at) r.end v r.within (omega arith)))
      (absent_among o (suc i) r.end m es r.behind h)

  pub absent_by : (o n m : ℕ) (rows : Rows) → Between n (row_offsets rows) m → m ≤ o → rows_path rows o ≡ None
  absent_by o n m no_rows b h = refl
  absent_by o n m (row keys at v rows) b h =
      let r = parts n m at v (row_offsets rows) b in
      rw (absent_here o at keys (path_within (keys_to_value o) v) (omega arith)
      (absent_within o (suc at) r.end v r.within (omega arith)))
      (absent_by o r.end m rows r.behind h)

pub absent_in : (o at k : ℕ) (keys : List Key) (v : Raw) → Between (suc at) (offsets_within v) k → k ≤ o
    → row_path keys at v o ≡ None
absent_in o at k keys v b h =
    let low : suc at ≤ k = between_bounds (suc at) k (offsets_within v) b in
    absent_here o at keys (path_within (keys_to_value o) v) (omega arith)
    (absent_within o (suc at) k v b h)

-- The node begins at an offset from n on and before m, and its path leads to the path that is found there.
pub record Found (find : ℕ → Option Path) (n m : ℕ) (p : Path) (node : Node) : Type 0 where
  pub at : ℕ
  pub start : node.start ≡ Some at
  pub from : n ≤ at
  pub before : at < m
  pub path : Path
  pub found : find at ≡ Some path
  pub leads : Leads p path

-- all keys of a row are all of its steps
all_keys : (keys : List Key) → take (length keys) (steps_of (texts keys)) ≡ steps_of (texts keys)
all_keys [] = refl
all_keys (k ∷ keys) = ap (λ p. key k.text ∷ p) (all_keys keys)

-- what a row's value is found for: the value itself, or a table that the dots of its keys make
pub found_here : {m : ℕ} {p : Path} {node : Node} (n at : ℕ) (keys : List Key) (within : ℕ → Option Path) → n ≤ at
    → at < m → node.start ≡ Some at → Leads p (steps_of (texts keys))
    → Found (λ o. here_or (keys_to_value o) keys at (within o)) n m p node
found_here n at keys within h k e l = record {
  at = at;
  start = e;
  from = h;
  before = k;
  path = steps_of (texts keys);
  found = rw (eq-eqb at at refl) (ap (λ p. Some p) (all_keys keys));
  leads = l;
}

-- what is within the value
pub found_within : {m : ℕ} {p : Path} {node : Node} (n at : ℕ) (keys : List Key) (within : ℕ → Option Path) → n ≤ at
    → Found within (suc at) m p node
    → Found (λ o. here_or (keys_to_value o) keys at (within o)) n m (steps_of (texts keys) ++ p) node
found_within n at keys within h r = record {
  at = r.at;
  start = r.start;
  from = omega (arith, r.from);
  before = r.before;
  path = steps_of (texts keys) ++ r.path;
  found = rw (ne_eqb r.at at (λ e. omega (arith, r.from, e))) (rw r.found refl);
  leads = leads_behind (steps_of (texts keys)) r.leads;
}

-- behind some steps
pub found_behind : {n m : ℕ} {p : Path} {node : Node} (front : Path) (f : ℕ → Option Path) → Found f n m p node
    → Found (λ o. option_map (λ q. front ++ q) (f o)) n m (front ++ p) node
found_behind front f r = record {
  at = r.at;
  start = r.start;
  from = r.from;
  before = r.before;
  path = front ++ r.path;
  found = rw r.found refl;
  leads = leads_behind front r.leads;
}

-- in the first of two, and in the second
pub found_first : {n m : ℕ} {p : Path} {node : Node} (k : ℕ) (f g : ℕ → Option Path) → k ≤ m → Found f n k p node
    → Found (λ o. option_or (f o) (g o)) n m p node
found_first k f g h r = record {
  at = r.at;
  start = r.start;
  from = r.from;
  before = omega (arith, r.before);
  path = r.path;
  found = rw r.found refl;
  leads = r.leads;
}

pub found_later : {n m : ℕ} {p : Path} {node : Node} (k : ℕ) (f g : ℕ → Option Path) → n ≤ k
    → ((o : ℕ) → k ≤ o → f o ≡ None) → Found g k m p node → Found (λ o. option_or (f o) (g o)) n m p node
found_later k f g h none r = record {
  at = r.at;
  start = r.start;
  from = omega (arith, r.from);
  before = r.before;
  path = r.path;
  found = rw (none r.at r.from) r.found;
  leads = r.leads;
}
