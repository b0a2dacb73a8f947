-- Where what a path of a document leads to is written, by the section list alone, own. A header writes a table, and a
-- double one its element; a row writes its value, and by its dots a table at each key but the last; a value holds its
-- elements, and the rows of an inline table. So a path leads to the offset of the header's first bracket, of the value,
-- or of the key with a period behind it; and to the offset of the key that stands last in the path.
-- Of several places it is the first header that names what stands there; else the first row that leads there; else the
-- first header that passes through it: so an array of tables is written at its first header.
use Rattle.std.specs.Prelude.{ℕ, zero, suc, if◌then◌else◌, List, [], ◌∷◌, Option, Some, None}
use Rattle.std.specs.Option.{option_or, option_and_then}
use Rattle.std.specs.Str.{bytes_eq}
use Rattle.basic_toml_grammar.specs.Sections.{Key, Raw, Elements, no_elements, element, Rows, no_rows, row, Section}
use Rattle.basic_toml_grammar.specs.Steps.{key, number, Path, step_eq, begins, path_eq}
use Rattle.basic_toml_grammar.specs.IndexedPath.{Located, located}
use Rattle.basic_toml_origin.specs.declared.origin.Origin.{Origin}

-- By a row, whose value says so of what is left behind its last key: at a key before that stands a table.
abbrev pub by_row : List Key → (Option ℕ → Path → Option Origin) → Path → Option Origin
by_row [] value p = None
by_row (k ∷ keys) value [] = None
by_row (k ∷ keys) value (number n ∷ p) = None
by_row (k ∷ []) value (key name ∷ p) = if bytes_eq k.text name then value (Some k.offset) p else None
by_row (k ∷ l ∷ keys) value (key name ∷ []) =
    if bytes_eq k.text name then Some (record { at = k.offset; key = Some k.offset }) else None
by_row (k ∷ l ∷ keys) value (key name ∷ s ∷ p) =
    if bytes_eq k.text name then by_row (l ∷ keys) value (s ∷ p) else None

abbrev mutual
  -- in a value that begins at an offset, behind this key
  pub in_value : Option ℕ → ℕ → Raw → Path → Option Origin
  in_value k at v [] = Some (record { at = at; key = k })
  in_value k at (Raw.array es) (number n ∷ p) = in_elements es n p
  in_value k at (Raw.inline rows) (key name ∷ p) = in_rows rows (key name ∷ p)
  in_value k at v (s ∷ p) = None

  pub in_elements : Elements → ℕ → Path → Option Origin
  in_elements no_elements n p = None
  in_elements (element at v es) zero p = in_value None at v p
  in_elements (element at v es) (suc n) p = in_elements es n p

  -- by the first row that leads there
  pub in_rows : Rows → Path → Option Origin
  in_rows no_rows p = None
  in_rows (row keys at v rows) p = option_or (by_row keys (λ k q. in_value k at v q) p) (in_rows rows p)

-- what is left of a path behind another one, which begins it
abbrev pub behind : Path → Path → Option Path
behind [] p = Some p
behind (t ∷ q) [] = None
behind (t ∷ q) (s ∷ p) = if step_eq t s then behind q p else None

-- the last key of a path among those of a header, one of which stands for each key of the path
abbrev pub last_key : List Key → Path → Option ℕ
last_key keys [] = None
last_key keys (number n ∷ p) = last_key keys p
last_key [] (key name ∷ p) = None
last_key (k ∷ keys) (key name ∷ []) = Some k.offset
last_key (k ∷ keys) (key name ∷ s ∷ p) = last_key keys (s ∷ p)

abbrev pub by_header : Section → Path → Origin
by_header s p = record { at = s.at; key = last_key s.header p }

-- what a section says of a path: by its header, which names or passes through what stands there, and by its rows
abbrev pub by_name : Path → Located → Option Origin
by_name p l = if path_eq l.path p then Some (by_header l.section p) else None

abbrev pub by_rows : Path → Located → Option Origin
by_rows p l = option_and_then (in_rows l.section.rows) (behind l.path p)

abbrev pub by_way : Path → Located → Option Origin
by_way p l = if begins p l.path then Some (by_header l.section p) else None

abbrev pub first : (Located → Option Origin) → List Located → Option Origin
first f [] = None
first f (l ∷ ls) = option_or (f l) (first f ls)

abbrev pub origin_at : List Section → Path → Option Origin
origin_at sections p =
    let ls = located sections in
    option_or (first (by_name p) ls) (option_or (first (by_rows p) ls) (first (by_way p) ls))
