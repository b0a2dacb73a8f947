-- The section list of a laid-out table, with no offsets but those of floats, and where its sections stand below it.
use Rattle.std.specs.Prelude.{ℕ, suc, ◌==◌, position, Bool, true, false, cond, List, [], ◌∷◌, ◌++◌, Option, Some, None}
use Rattle.basic_toml_value.specs.Data as d
use Rattle.basic_toml_value.specs.Data.{Data, Items, no_items, item, Members, no_members, member}
use Rattle.basic_toml_grammar.specs.Sections as s
use Rattle.basic_toml_grammar.specs.Sections.{Key, KeyTexts, Raw, Rows, no_rows, row, Section}
use Rattle.basic_toml_grammar.specs.Steps.{Step, key, number}
use Rattle.basic_toml_grammar.specs.Placed.{Placed}
use Rattle.basic_toml_grammar.specs.Grammar.{to_period, with_root}
use Rattle.basic_toml_round_trip.proofs.LaidOut.{Laid, a_row, then_parts, Parts, no_parts, a_table, an_array, Nodes}
use Rattle.basic_toml_round_trip.proofs.LaidOut.{no_nodes, a_node, in_order}
use Rattle.basic_toml_layout.proofs.OrderedText as o

-- a value of a row as it is read, where no string asks for a copy; a float has the offset of the character after its
-- period
abbrev pub raw_offset : Raw → ℕ
raw_offset (Raw.float t) = to_period (position (λ c. c == 46) t)
raw_offset _ = 0

-- a key with no offset
abbrev pub unplaced : List ℕ → Key
unplaced k = record { offset = 0; text = k }

abbrev pub one_key : List ℕ → List Key
one_key k = unplaced k ∷ []

abbrev mutual
  pub raw : Data → Raw
  raw (d.integer z) = Raw.integer z
  raw (d.float t) = Raw.float t
  raw (d.boolean b) = Raw.boolean b
  raw (d.string t) = Raw.string t false
  raw (d.array xs) = Raw.array (raw_items xs)
  raw (d.table ms) = Raw.inline (raw_fields ms)

  pub raw_items : Items → s.Elements
  raw_items no_items = s.no_elements
  raw_items (item x xs) = s.element (raw_offset (raw x)) (raw x) (raw_items xs)

  pub raw_fields : Members → Rows
  raw_fields no_members = no_rows
  raw_fields (member k x ms) = row (one_key k) (raw_offset (raw x)) (raw x) (raw_fields ms)

-- the rows of a table
abbrev pub rows : {seen : KeyTexts} {ms : Members} → Laid seen ms → Rows
rows (a_row {k = k} {x = x} new text value laid) = row (one_key k) (raw_offset (raw x)) (raw x) (rows laid)
rows (then_parts parts) = no_rows

-- the header of a table is left out where it has parts and no row
abbrev pub has_header : {seen : KeyTexts} {ms : Members} → Laid seen ms → Bool
has_header laid = o.has_header (in_order laid)

-- a path has its last key first
abbrev pub backwards : KeyTexts → List Key
backwards [] = []
backwards (k ∷ path) = backwards path ++ one_key k

-- the section of a table at a path, or of an element
abbrev pub section_of : KeyTexts → Bool → Rows → Section
section_of path is_array rs = record { at = 0; header = backwards path; is_array = is_array; rows = rs }

-- the sections after the rows of a table at a path
abbrev mutual
  pub inner_sections : {seen : KeyTexts} {ms : Members} → KeyTexts → Laid seen ms → List Section
  inner_sections path (a_row new text value laid) = inner_sections path laid
  inner_sections path (then_parts parts) = part_sections path parts

  pub part_sections : {seen : KeyTexts} {ms : Members} → KeyTexts → Parts seen ms → List Section
  part_sections path no_parts = []
  part_sections path (a_table {k = k} new text laid parts) =
      cond (has_header laid) (section_of (k ∷ path) false (rows laid) ∷ []) [] ++
      (inner_sections (k ∷ path) laid ++ part_sections path parts)
  part_sections path (an_array {k = k} new text nodes parts) =
      node_sections (k ∷ path) nodes ++ part_sections path parts

  pub node_sections : {xs : Items} → KeyTexts → Nodes xs → List Section
  node_sections path no_nodes = []
  node_sections path (a_node laid nodes) =
      section_of path true (rows laid) ∷ (inner_sections path laid ++ node_sections path nodes)

-- the section list of a root
abbrev pub sections : {ms : Members} → Laid [] ms → List Section
sections laid = with_root (rows laid) (inner_sections [] laid)

-- paths one step further down
abbrev pub below : Step → List Placed → List Placed
below s [] = []
below s (l ∷ ls) = record { target = s ∷ l.target; element = l.element; rows = l.rows } ∷ below s ls

-- where a table stands, from itself on, or an element from its array on
abbrev pub placed_here : Option ℕ → Rows → Placed
placed_here e rs = record { target = []; element = e; rows = rs }

-- where its own section stands, if it has a header
abbrev pub head_placed : {seen : KeyTexts} {ms : Members} → Laid seen ms → List Placed
head_placed laid = cond (has_header laid) (placed_here None (rows laid) ∷ []) []

-- and where those after its rows stand
abbrev mutual
  pub inner_placed : {seen : KeyTexts} {ms : Members} → Laid seen ms → List Placed
  inner_placed (a_row new text value laid) = inner_placed laid
  inner_placed (then_parts parts) = part_placed parts

  pub part_placed : {seen : KeyTexts} {ms : Members} → Parts seen ms → List Placed
  part_placed no_parts = []
  part_placed (a_table {k = k} new text laid parts) =
      below (key k) (head_placed laid ++ inner_placed laid) ++ part_placed parts
  part_placed (an_array {k = k} new text nodes parts) = below (key k) (node_offsets 0 nodes) ++ part_placed parts

  pub node_offsets : {xs : Items} → ℕ → Nodes xs → List Placed
  node_offsets i no_nodes = []
  node_offsets i (a_node laid nodes) =
      placed_here (Some i) (rows laid) ∷ (below (number i) (inner_placed laid) ++ node_offsets (suc i) nodes)
