-- Where a node of a document comes from, by the section list alone, own. A node is told by its path in the tree. What
-- a header names or passes through is made by sections: `table` or `array`, placed at the last section, with the keys
-- of its path. Everything else comes from a row, with its section's keys and the row's first key: a value, a part of a
-- value, or a table that the dots of a row make. Such a dotted table begins where the first value begins that made it.
-- The outer offset is the beginning of the nearest inline or dotted table around a node, else the last section. The
-- offset is where the value begins, of an array literal the outer offset.
use Rattle.std.specs.Prelude.{ℕ, zero, suc, Bool, true, false, not, ◌&&◌, if◌then◌else◌, List, [], ◌∷◌, ◌++◌, length}
use Rattle.std.specs.Prelude.{drop, codes, Option, Some, None}
use Rattle.std.specs.List.{list_any}
use Rattle.std.specs.Option.{option_or}
use Rattle.basic_toml_grammar.specs.Sections.{KeyTexts, texts, Raw, Elements, no_elements, element, Rows, no_rows}
use Rattle.basic_toml_grammar.specs.Sections.{row, Section}
use Rattle.basic_toml_grammar.specs.Steps.{key, number, Path, begins, steps_of, keys_of}
use Rattle.basic_toml_grammar.specs.IndexedPath.{Located, located}
use Rattle.basic_toml_grammar.specs.NamedClash.{first_key}

-- `start` is where a value begins, and `is_slice` says that it is a string that asks for no copy
pub record Node : Type 0 where
  pub type_name : List ℕ
  pub start : Option ℕ
  pub offset : Option ℕ
  pub outer_offset : Option ℕ
  pub key_path : KeyTexts
  pub is_slice : Bool

-- a path without its last step
abbrev pub front : Path → Path
front [] = []
front (s ∷ []) = []
front (s ∷ t ∷ p) = s ∷ front (t ∷ p)

abbrev pub raw_name : Raw → List ℕ
raw_name (Raw.integer _) = codes "integer"
raw_name (Raw.float _) = codes "float"
raw_name (Raw.boolean _) = codes "boolean"
raw_name (Raw.string _ _) = codes "string"
raw_name (Raw.array _) = codes "array"
raw_name (Raw.inline _) = codes "inline table"

abbrev pub raw_is_slice : Raw → Bool
raw_is_slice (Raw.string _ copied) = not copied
raw_is_slice _ = false

abbrev pub offset_of : Raw → ℕ → Option ℕ → Option ℕ
offset_of (Raw.array _) at outer = outer
offset_of _ at outer = Some at

-- a value that begins at an offset, and a table that dots made
abbrev pub value_node : KeyTexts → Option ℕ → ℕ → Raw → Node
value_node keys outer at v = record {
  type_name = raw_name v;
  start = Some at;
  offset = offset_of v at outer;
  outer_offset = outer;
  key_path = keys;
  is_slice = raw_is_slice v;
}

abbrev pub dotted_node : KeyTexts → Option ℕ → ℕ → Node
dotted_node keys outer at = record {
  type_name = codes "dotted table";
  start = Some at;
  offset = Some at;
  outer_offset = outer;
  key_path = keys;
  is_slice = false;
}

-- where the dotted table at this path begins: at the value of the first row whose path goes on from it
abbrev pub dotted_start : Rows → Path → Option ℕ
dotted_start no_rows p = None
dotted_start (row keys at value rows) p = if begins p (steps_of (texts keys)) then Some at else dotted_start rows p

-- the beginning of the table of an inline table's rows that holds what stands at a path
abbrev pub holder_in : Option ℕ → Rows → Path → Option ℕ
holder_in outer rows [] = outer
holder_in outer rows (s ∷ p) = dotted_start rows (s ∷ p)

-- the node that a path leads to in a value, and in the rows of an inline table, all of which are `rows`
abbrev mutual
  pub node_in : KeyTexts → Option ℕ → ℕ → Raw → Path → Option Node
  node_in keys outer at v [] = Some (value_node keys outer at v)
  node_in keys outer at (Raw.array es) (number n ∷ p) = node_among keys outer es n p
  node_in keys outer at (Raw.inline rows) (key k ∷ p) = node_by keys (Some at) rows rows (key k ∷ p)
  node_in keys outer at _ (s ∷ p) = None

  pub node_among : KeyTexts → Option ℕ → Elements → ℕ → Path → Option Node
  node_among keys outer no_elements n p = None
  node_among keys outer (element at value es) zero p = node_in keys outer at value p
  node_among keys outer (element at value es) (suc n) p = node_among keys outer es n p

  pub node_by : KeyTexts → Option ℕ → Rows → Rows → Path → Option Node
  node_by keys outer rows no_rows p = None
  node_by keys outer rows (row ks at value later) p =
      let steps = steps_of (texts ks) in
      if begins steps p then node_in keys (holder_in outer rows (front steps)) at value (drop (length steps) p)
      else if begins p steps then Some (dotted_node keys (holder_in outer rows (front p)) at)
      else node_by keys outer rows later p

-- what a header names or passes through; the root always
abbrev pub is_made : List Located → Path → Bool
is_made ls [] = true
is_made ls (s ∷ p) = list_any (λ l. begins (s ∷ p) l.path) ls

abbrev pub is_number : Path → Bool
is_number (number n ∷ p) = true
is_number _ = false

-- whether it is an array: a number follows
abbrev pub is_array : List Located → Path → Bool
is_array ls p = list_any (λ l. begins p l.path && is_number (drop (length p) l.path)) ls

abbrev pub last_at : List Section → Option ℕ
last_at [] = None
last_at (s ∷ []) = Some s.at
last_at (s ∷ t ∷ sections) = last_at (t ∷ sections)

abbrev pub made_node : List Located → Option ℕ → Path → Node
made_node ls last p = record {
  type_name = (if is_array ls p then codes "array" else codes "table");
  start = last;
  offset = last;
  outer_offset = last;
  key_path = keys_of p;
  is_slice = false;
}

-- where the dotted table at this path begins, by the first row of all sections whose path goes on from it
abbrev pub start_in : Path → Rows → Path → Option ℕ
start_in path no_rows p = None
start_in path (row keys at value rows) p =
    if begins p (path ++ steps_of (texts keys)) then Some at else start_in path rows p

abbrev pub first_start : List Located → Path → Option ℕ
first_start [] p = None
first_start (l ∷ ls) p = option_or (start_in l.path l.section.rows p) (first_start ls p)

abbrev pub holder : List Located → Option ℕ → Path → Option ℕ
holder ls last p = if is_made ls p then last else first_start ls p

-- the node of the first row that leads to a path
abbrev pub node_of_rows : List Located → Option ℕ → Located → Rows → Path → Option Node
node_of_rows ls last l no_rows p = None
node_of_rows ls last l (row keys at value rows) p =
    let path = l.path ++ steps_of (texts keys) in
    let key_path = texts l.section.header ++ first_key keys in
    if begins path p then node_in key_path (holder ls last (front path)) at value (drop (length path) p)
    else if begins p path then Some (dotted_node key_path (holder ls last (front p)) at)
    else node_of_rows ls last l rows p

abbrev pub node_of_sections : List Located → Option ℕ → List Located → Path → Option Node
node_of_sections ls last [] p = None
node_of_sections ls last (l ∷ later) p =
    option_or (node_of_rows ls last l l.section.rows p) (node_of_sections ls last later p)

-- the node at a path of the document of a section list
abbrev pub node_at : List Section → Path → Option Node
node_at sections p =
    let ls = located sections in
    let last = last_at sections in
    if is_made ls p then Some (made_node ls last p) else node_of_sections ls last ls p
