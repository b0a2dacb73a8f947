-- What stops a section that is entered key by key, own: the steps are those of `Entering`, and each goes on where its
-- mark fits, or names what stands there. The fault of a stop stands in the list of named clashes (law
-- `stops_are_named`); that list speaks of paths, so the law is proved of this walk, and `TrieStops` takes it over.
-- A value is looked through before its row is put.
use Rattle.std.specs.Prelude.{ℕ, zero, suc, ◌-◌, Bool, true, false, if◌then◌else◌, List, [], ◌∷◌, ◌++◌, Option, Some}
use Rattle.std.specs.Prelude.{length, take}
use Rattle.basic_toml_value.specs.Data.{Data}
use Rattle.basic_toml_grammar.specs.Sections.{Key, KeyTexts, texts, Raw, Elements, no_elements, element, Rows}
use Rattle.basic_toml_grammar.specs.Sections.{no_rows, row, Section}
use Rattle.basic_toml_grammar.specs.Steps.{Path, key, number}
use Rattle.basic_toml_grammar.specs.Mentions.{finished}
use Rattle.basic_toml_grammar.specs.Marks.{MarkKind, passed, by_latest, named, added, dotted, valued, Mark, mark}
use Rattle.basic_toml_grammar.specs.Standing.{Standing, table, array, value, fits, standing_at}
use Rattle.basic_toml_grammar.specs.Entering.{count_at}
use Rattle.basic_toml_grammar.specs.Faults.{Fault}
use Rattle.basic_toml_grammar.specs.NamedClash.{nth_key, last_key, first_key, key_fault, table_fault, array_fault}

pub data Stop : Type 0 where
  -- a key of the header is the last of an earlier row, or lies within one: it and so many keys are left
  at_header : ℕ → Stop
  -- the table of the header has been named
  is_named : Stop
  -- the header adds an element where another passes through a table, or passes where another adds one
  is_passed : Stop
  -- a key of a row, and the keys between the header and it that the fault tells
  at_row : KeyTexts → Key → Stop

abbrev pub stop_fault : Section → Stop → Fault
stop_fault s (at_header left) =
    let n = length s.header - left in
    key_fault (nth_key n s.header) (texts (take n s.header))
stop_fault s is_named = table_fault s
stop_fault s is_passed = array_fault s
stop_fault s (at_row keys k) = key_fault k (texts s.header ++ keys)

-- of a header's mark that does not fit what stands, with so many keys left after it
abbrev pub header_stop : MarkKind → ℕ → Option Standing → Stop
header_stop named left (Some (table p true false)) = is_named
header_stop added left (Some (table p true false)) = is_named
header_stop added left (Some (table p false false)) = is_passed
header_stop named left (Some (array n)) = is_named
header_stop k left (Some (array n)) = is_passed
header_stop k left m = at_header (suc left)

-- of a row's last key after others: a row of the same section stands there, or a header
abbrev pub last_stop : KeyTexts → Key → Option Standing → Stop
last_stop before k (Some value) = at_row (take 1 before) k
last_stop before k (Some (table false false d)) = at_row (take 1 before) k
last_stop before k m = at_row before k

-- of a value, as one of the row that holds it
abbrev pub held_stop : List Key → Stop → Stop
held_stop keys (at_row before k) = at_row (first_key keys) k
held_stop keys x = x

-- what a step comes to
pub data Outcome (A : Type 0) : Type 0 where
  goes_on : A → Outcome A
  stops : Stop → Outcome A

abbrev pub and_on : {A B : Type 0} → Outcome A → (A → Outcome B) → Outcome B
and_on (stops x) f = stops x
and_on (goes_on a) f = f a

-- one more mark, where it fits
abbrev pub try_mark : Path → MarkKind → (Option Standing → Stop) → List Mark → Outcome (List Mark)
try_mark p k name st = if fits k (standing_at st p) then goes_on (mark p k ∷ st) else stops (name (standing_at st p))

-- a row whose keys so far are `before`
abbrev pub try_row : Path → KeyTexts → List Key → Data → List Mark → Outcome (List Mark)
try_row p before [] v st = try_mark p (valued v) (last_stop before (last_key [])) st
try_row p before (k ∷ []) v st = try_mark (p ++ key k.text ∷ []) (valued v) (last_stop before k) st
try_row p before (k ∷ l ∷ ks) v st =
    and_on (try_mark (p ++ key k.text ∷ []) dotted (λ m. at_row before k) st)
    (λ st. try_row (p ++ key k.text ∷ []) (before ++ k.text ∷ []) (l ∷ ks) v st)

abbrev pub held : {A : Type 0} → List Key → Outcome A → Outcome A
held keys (goes_on a) = goes_on a
held keys (stops x) = stops (held_stop keys x)

abbrev mutual
  pub try_rows : Path → Rows → List Mark → Outcome (List Mark)
  try_rows p no_rows st = goes_on st
  try_rows p (row keys at v rows) st =
      and_on (held keys (try_value v))
      (λ _. and_on (try_row p [] keys (finished v) st) (λ st. try_rows p rows st))

  -- the rows of an inline table go where nothing stands
  pub try_value : Raw → Outcome (List Mark)
  try_value (Raw.array elements) = try_elements elements
  try_value (Raw.inline rows) = try_rows [] rows []
  try_value _ = goes_on []

  pub try_elements : Elements → Outcome (List Mark)
  try_elements no_elements = goes_on []
  try_elements (element at v elements) = and_on (try_value v) (λ _. try_elements elements)

-- a mark of the header, with so many keys left after it
abbrev pub try_header : Path → MarkKind → ℕ → List Mark → Outcome (List Mark)
try_header p k left st = try_mark p k (header_stop k left) st

abbrev pub try_table : Path → Rows → List Mark → Outcome (List Mark)
try_table p rows st = and_on (try_header p named 0 st) (λ st. try_rows p rows st)

abbrev pub try_element : Rows → Path → List Mark → Outcome (List Mark)
try_element rows here st =
    let n = count_at st here in
    and_on (try_header here added 0 st) (λ st. try_table (here ++ number n ∷ []) rows st)

-- on from a path, into the latest element where an array of so many elements stands
abbrev pub try_latest : (Path → List Mark → Outcome (List Mark)) → Path → ℕ → ℕ → List Mark → Outcome (List Mark)
try_latest go here left zero st = go here st
try_latest go here left (suc n) st =
    and_on (try_header here by_latest left st) (λ st. go (here ++ number n ∷ []) st)

abbrev pub try_walk : Bool → Rows → Path → KeyTexts → List Mark → Outcome (List Mark)
try_walk is_array rows cut [] st = try_table cut rows st
try_walk is_array rows cut (k ∷ []) st = and_on (try_header cut passed 1 st) (λ st.
    let here = cut ++ key k ∷ [] in
    if is_array then try_element rows here st
    else try_latest (λ p st. try_table p rows st) here 0 (count_at st here) st)
try_walk is_array rows cut (k ∷ l ∷ keys) st = and_on (try_header cut passed (length (k ∷ l ∷ keys)) st) (λ st.
    let here = cut ++ key k ∷ [] in
    try_latest (λ p st. try_walk is_array rows p (l ∷ keys) st) here (length (l ∷ keys)) (count_at st here) st)

-- a section, or what stops it
abbrev pub try_enter : Section → List Mark → Outcome (List Mark)
try_enter s st = try_walk s.is_array s.rows [] (texts s.header) st
