-- Named clash, own: the faults that a section list allows, one for each pair that clashes. 'Later' is later in the
-- list of mentions: of two rows the second, of two sections the second with all its rows.
-- `DottedKeyInvalidType`: a row's path properly begins a later row's; at the earlier row's value, with no key path.
-- `DuplicateKey`: a row's path equals an earlier row's or begins one; at the last key of the later row. The key path
-- is the section's keys and the first key of the row, if it has several; inside a value, the first key of the row that
-- holds it.
-- `DuplicateKey`: a row lies on the path of a header, or the header crosses it; at the later of the two occurrences of
-- the key. The key is the row's last where it lies on the path, and the header's last where it is crossed; the key path
-- is all keys before it.
-- `DuplicateTable`: two sections with one path, or `[[a]]` and `[a]`. `RedefineAsArray`: `[[a]]` and a header that
-- passes through `a`. Both at the later section, with its keys.
-- `DottedKeyInvalidType` comes first over the whole list.
use Rattle.std.specs.Prelude.{ℕ, zero, suc, ◌-◌, ◌+◌, Bool, true, false, if◌then◌else◌, List, [], ◌∷◌, ◌++◌, length}
use Rattle.std.specs.Prelude.{take, Contains, Some}
use Rattle.std.specs.List.{flat_map, join_with_byte}
use Rattle.basic_toml_tokens.specs.Ascii as ascii
use Rattle.basic_toml_grammar.specs.Sections.{Key, KeyTexts, texts, Raw, Elements, no_elements, element, Rows}
use Rattle.basic_toml_grammar.specs.Sections.{no_rows, row, Section}
use Rattle.basic_toml_grammar.specs.Steps.{Path, begins, path_eq, properly_begins, steps_of}
use Rattle.basic_toml_grammar.specs.IndexedPath.{Located, located}
use Rattle.basic_toml_grammar.specs.SectionClash.{target, same_path, array_on_cut, row_on_path, row_crossed}
use Rattle.basic_toml_grammar.specs.Faults.{dotted_key_invalid_type, duplicate_key, duplicate_table}
use Rattle.basic_toml_grammar.specs.Faults.{redefine_as_array, Fault}

-- key l + 1 of several
abbrev pub nth_key : ℕ → List Key → Key
nth_key l [] = record { offset = 0; text = [] }
nth_key zero (k ∷ keys) = k
nth_key (suc l) (k ∷ keys) = nth_key l keys

abbrev pub last_key : List Key → Key
last_key [] = record { offset = 0; text = [] }
last_key (k ∷ []) = k
last_key (k ∷ l ∷ keys) = last_key (l ∷ keys)

-- the first key of a row, and the first of several
abbrev pub first_key : List Key → KeyTexts
first_key [] = []
first_key (k ∷ keys) = k.text ∷ []

abbrev pub first_of_several : List Key → KeyTexts
first_of_several (k ∷ l ∷ keys) = k.text ∷ []
first_of_several _ = []

abbrev pub dotted_fault : ℕ → Fault
dotted_fault at = record { kind = dotted_key_invalid_type; offset = Some at; key_path = [] }

abbrev pub key_fault : Key → KeyTexts → Fault
key_fault k keys = record { kind = duplicate_key k.text; offset = Some k.offset; key_path = keys }

-- the faults of a row with this value and path before these rows
abbrev pub extending_faults : ℕ → Path → Rows → List Fault
extending_faults at p no_rows = []
extending_faults at p (row keys _ value rows) =
    if properly_begins p (steps_of (texts keys)) then dotted_fault at
    ∷ extending_faults at p rows else extending_faults at p rows

abbrev mutual
  pub dotted_faults : Rows → List Fault
  dotted_faults no_rows = []
  dotted_faults (row keys at value rows) =
      (extending_faults at (steps_of (texts keys)) rows ++ dotted_faults_in value) ++ dotted_faults rows

  pub dotted_faults_in : Raw → List Fault
  dotted_faults_in (Raw.array elements) = dotted_faults_among elements
  dotted_faults_in (Raw.inline rows) = dotted_faults rows
  dotted_faults_in _ = []

  pub dotted_faults_among : Elements → List Fault
  dotted_faults_among no_elements = []
  dotted_faults_among (element at value elements) = dotted_faults_in value ++ dotted_faults_among elements

-- the faults of a row with this path before these rows; `key_path` tells the key path of a fault at a row
abbrev pub repeating_faults : (List Key → KeyTexts) → Path → Rows → List Fault
repeating_faults key_path p no_rows = []
repeating_faults key_path p (row keys at value rows) =
    if begins (steps_of (texts keys)) p then key_fault (last_key keys) (key_path keys)
    ∷ repeating_faults key_path p rows
    else repeating_faults key_path p rows

-- `inside` tells the key path of a fault in the value of a row
abbrev mutual
  pub repeated_faults : (List Key → KeyTexts) → (List Key → KeyTexts) → Rows → List Fault
  repeated_faults key_path inside no_rows = []
  repeated_faults key_path inside (row keys at value rows) =
      (repeating_faults key_path (steps_of (texts keys)) rows ++ repeated_faults_in (inside keys) value)
      ++ repeated_faults key_path inside rows

  pub repeated_faults_in : KeyTexts → Raw → List Fault
  repeated_faults_in keys (Raw.array elements) = repeated_faults_among keys elements
  repeated_faults_in keys (Raw.inline rows) = repeated_faults (λ _. keys) (λ _. keys) rows
  repeated_faults_in keys _ = []

  pub repeated_faults_among : KeyTexts → Elements → List Fault
  repeated_faults_among keys no_elements = []
  repeated_faults_among keys (element at value elements) = repeated_faults_in keys value
      ++ repeated_faults_among keys elements

abbrev pub repeated_faults_of : Section → List Fault
repeated_faults_of s = repeated_faults (λ keys. texts s.header ++ first_of_several keys) (λ keys. texts s.header
    ++ first_key keys) s.rows

-- the faults of two sections where `later` stands after the other
abbrev pub table_fault : Section → Fault
table_fault later = record {
  kind = duplicate_table (join_with_byte ascii.period (texts later.header));
  offset =
      Some later.at;
  key_path = texts later.header;
}

abbrev pub array_fault : Section → Fault
array_fault later = record { kind = redefine_as_array; offset = Some later.at; key_path = texts later.header }

abbrev pub path_faults : Located → Located → List Fault
path_faults i later = if same_path i later then table_fault later.section ∷ [] else []

abbrev pub cut_faults : Located → Located → Section → List Fault
cut_faults i j later =
    if array_on_cut i j then (if path_eq i.path (target j) then table_fault later else array_fault later) ∷ [] else []

-- key m of a row of i and key n + m of the header of j, which are one key
abbrev pub crossing_fault : ℕ → ℕ → List Key → List Key → Bool → Fault
crossing_fault n m keys header header_is_later =
    key_fault (if header_is_later then nth_key (n + m - 1) header else nth_key (m - 1) keys)
    (texts (take (n + m - 1) header))

abbrev pub row_faults : Located → Rows → Located → Bool → List Fault
row_faults i no_rows j header_is_later = []
row_faults i (row keys at value rows) j header_is_later =
    let n = length i.section.header in
    let header = j.section.header in
    let steps = steps_of (texts keys) in
    ((if row_on_path i.path steps j then crossing_fault n (length keys) keys header header_is_later ∷ [] else [])
    ++ (if row_crossed i.path steps j then crossing_fault n (length header - n) keys header header_is_later
    ∷ [] else []))
    ++ row_faults i rows j header_is_later

-- of two sections in order
abbrev pub pair_faults : Located → Located → List Fault
pair_faults i j =
    (path_faults i j ++ (cut_faults i j j.section ++ cut_faults j i j.section))
    ++ (row_faults i i.section.rows j true ++ row_faults j j.section.rows i false)

abbrev pub section_faults : List Located → List Fault
section_faults [] = []
section_faults (l ∷ ls) = flat_map (pair_faults l) ls ++ section_faults ls

-- the first list that holds something
abbrev pub first_of_two : List Fault → List Fault → List Fault
first_of_two [] later = later
first_of_two (f ∷ faults) later = f ∷ faults

abbrev pub clash_faults : List Section → List Fault
clash_faults sections =
    first_of_two (flat_map (λ s. dotted_faults s.rows) sections)
    (flat_map repeated_faults_of sections ++ section_faults (located sections))

-- the fault names a clash that stands in the list
abbrev pub NamesClash : List Section → Fault → Type 0
NamesClash sections fault = Contains (clash_faults sections) fault
