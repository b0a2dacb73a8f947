-- A section list entered key by key, own: the state is the marks so far, the latest first. It goes through exactly
-- where nothing clashes, and its tree is the tree of mentions (laws `entering_accepts`, `entering_grows`). These laws
-- are proved of this walk, since the rules speak of paths, as marks do; `Trie` is the same walk from node to node, as
-- the resolver goes, and `Stops` says what stops this one.
use Rattle.std.specs.Prelude.{ℕ, zero, suc, Bool, true, false, ◌&&◌, if◌then◌else◌, List, [], ◌∷◌, ◌++◌, Option}
use Rattle.std.specs.Prelude.{Some, None}
use Rattle.basic_toml_value.specs.Data.{Data}
use Rattle.basic_toml_grammar.specs.Sections.{Key, KeyTexts, texts, Section, Raw, Elements, no_elements, element}
use Rattle.basic_toml_grammar.specs.Sections.{Rows, no_rows, row}
use Rattle.basic_toml_grammar.specs.Steps.{key, number, Path}
use Rattle.basic_toml_grammar.specs.RowClash.{rows_clash}
use Rattle.basic_toml_grammar.specs.Mentions.{finished}
use Rattle.basic_toml_grammar.specs.Marks.{MarkKind, passed, by_latest, named, added, dotted, valued, Mark, mark}
use Rattle.basic_toml_grammar.specs.Standing.{Standing, array, fits, standing_at}

abbrev pub and_then : {A B : Type 0} → Option A → (A → Option B) → Option B
and_then None f = None
and_then (Some x) f = f x

-- one more mark, where it fits
abbrev pub take_mark : Path → MarkKind → List Mark → Option (List Mark)
take_mark p k st = if fits k (standing_at st p) then Some (mark p k ∷ st) else None

-- how many elements the array at a path has
abbrev pub element_count : Option Standing → ℕ
element_count (Some (array n)) = n
element_count _ = 0

abbrev pub count_at : List Mark → Path → ℕ
count_at st p = element_count (standing_at st p)

abbrev pub add_row : Path → KeyTexts → Data → List Mark → Option (List Mark)
add_row p [] v st = take_mark p (valued v) st
add_row p (k ∷ []) v st = take_mark (p ++ key k ∷ []) (valued v) st
add_row p (k ∷ l ∷ ks) v st =
    and_then (take_mark (p ++ key k ∷ []) dotted st) (λ st. add_row (p ++ key k ∷ []) (l ∷ ks) v st)

abbrev pub add_rows : Path → Rows → List Mark → Option (List Mark)
add_rows p no_rows st = Some st
add_rows p (row keys at v rows) st = and_then (add_row p (texts keys) (finished v) st) (λ st. add_rows p rows st)

abbrev pub add_table : Path → Rows → List Mark → Option (List Mark)
add_table p rows st = and_then (take_mark p named st) (λ st. add_rows p rows st)

-- on from a path, into the latest element where an array of so many elements stands
abbrev pub by_element : (Path → List Mark → Option (List Mark)) → Path → ℕ → List Mark → Option (List Mark)
by_element go here zero st = go here st
by_element go here (suc n) st = and_then (take_mark here by_latest st) (λ st. go (here ++ number n ∷ []) st)

abbrev pub add_element : Rows → Path → List Mark → Option (List Mark)
add_element rows here st =
    let n = count_at st here in
    and_then (take_mark here added st) (λ st. add_table (here ++ number n ∷ []) rows st)

-- on by the keys of a header
abbrev pub walk : Bool → Rows → Path → KeyTexts → List Mark → Option (List Mark)
walk is_array rows cut [] st = add_table cut rows st
walk is_array rows cut (k ∷ []) st = and_then (take_mark cut passed st) (λ st.
    let here = cut ++ key k ∷ [] in
    if is_array then add_element rows here st else by_element (λ p st. add_table p rows st) here (count_at st here) st)
walk is_array rows cut (k ∷ l ∷ keys) st = and_then (take_mark cut passed st) (λ st.
    let here = cut ++ key k ∷ [] in
    by_element (λ p st. walk is_array rows p (l ∷ keys) st) here (count_at st here) st)

abbrev pub enter : Section → List Mark → Option (List Mark)
enter s st = if rows_clash s.rows then None else walk s.is_array s.rows [] (texts s.header) st

abbrev pub enter_all : List Section → List Mark → Option (List Mark)
enter_all [] st = Some st
enter_all (s ∷ sections) st = and_then (enter s st) (λ st. enter_all sections st)

-- As the grammar has it, each row has a key, and so has the header of an array section.
abbrev pub rows_keyed : Rows → Bool
rows_keyed no_rows = true
rows_keyed (row [] at v rows) = false
rows_keyed (row (k ∷ keys) at v rows) = rows_keyed rows

abbrev pub header_keyed : Bool → KeyTexts → Bool
header_keyed true [] = false
header_keyed is_array keys = true

abbrev pub is_keyed : Section → Bool
is_keyed s = rows_keyed s.rows && header_keyed s.is_array (texts s.header)

abbrev pub all_keyed : List Section → Bool
all_keyed [] = true
all_keyed (s ∷ sections) = is_keyed s && all_keyed sections

-- and each row of an inline table at any depth has a key
abbrev pub has_key : List Key → Bool
has_key [] = false
has_key (k ∷ keys) = true

abbrev mutual
  pub keyed_within : Rows → Bool
  keyed_within no_rows = true
  keyed_within (row keys at v rows) = (has_key keys && value_keyed v) && keyed_within rows

  pub value_keyed : Raw → Bool
  value_keyed (Raw.array elements) = elements_keyed elements
  value_keyed (Raw.inline rows) = keyed_within rows
  value_keyed _ = true

  pub elements_keyed : Elements → Bool
  elements_keyed no_elements = true
  elements_keyed (element at v elements) = value_keyed v && elements_keyed elements

abbrev pub all_keyed_within : List Section → Bool
all_keyed_within [] = true
all_keyed_within (s ∷ sections) = keyed_within s.rows && all_keyed_within sections
