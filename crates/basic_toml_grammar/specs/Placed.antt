-- Where sections stand, section by section: the form of the indexed path and of the section clash that proofs go by
-- (laws `paths_agree`, `clashes_agree`). The path of a section is its target, then the number of its own element where
-- it is an array section. An array has as many elements as array sections stood at that target before.
use Rattle.std.specs.Prelude.{ℕ, suc, Bool, true, false, ◌&&◌, ◌||◌, if◌then◌else◌, List, [], ◌∷◌, ◌++◌, Option}
use Rattle.std.specs.Prelude.{Some, None}
use Rattle.basic_toml_grammar.specs.Sections.{KeyTexts, texts, Section, Rows, no_rows, row}
use Rattle.basic_toml_grammar.specs.Steps.{key, number, Path, step_eq, path_eq, begins, steps_of}
use Rattle.basic_toml_grammar.specs.IndexedPath.{latest}
use Rattle.basic_toml_grammar.specs.SectionClash.{any_pair}

pub record Placed : Type 0 where
  pub target : Path
  pub element : Option ℕ
  pub rows : Rows

abbrev pub step_into : Option ℕ → Path
step_into None = []
step_into (Some n) = number n ∷ []

abbrev pub adds_element : Option ℕ → Bool
adds_element None = false
adds_element (Some n) = true

abbrev pub path_of : Placed → Path
path_of l = l.target ++ step_into l.element

-- how many elements were added to the array at a path
abbrev pub elements_at : Path → List Placed → ℕ
elements_at p [] = 0
elements_at p (l ∷ ls) =
    if adds_element l.element && path_eq l.target p then suc (elements_at p ls) else elements_at p ls

-- What a header's keys lead to from a cut on: each key with the number of the latest element there, but for the last
-- key of an array section. `count` says how many elements an array has so far.
abbrev pub target_from : (Path → ℕ) → Bool → Path → KeyTexts → Path
target_from count is_array cut [] = []
target_from count is_array cut (k ∷ []) = key k ∷ (if is_array then [] else latest (count (cut ++ key k ∷ [])))
target_from count is_array cut (k ∷ l ∷ keys) =
    let steps = key k ∷ latest (count (cut ++ key k ∷ [])) in
    steps ++ target_from count is_array (cut ++ steps) (l ∷ keys)

-- the number of the element that an array section adds
abbrev pub element_from : (Path → ℕ) → Bool → Path → KeyTexts → Option ℕ
element_from count is_array cut [] = None
element_from count is_array cut (k ∷ []) = if is_array then Some (count (cut ++ key k ∷ [])) else None
element_from count is_array cut (k ∷ l ∷ keys) =
    element_from count is_array (cut ++ key k ∷ latest (count (cut ++ key k ∷ []))) (l ∷ keys)

abbrev pub placed_by : (Path → ℕ) → Section → Placed
placed_by count s = record {
  target = target_from count s.is_array [] (texts s.header);
  element = element_from count s.is_array [] (texts s.header);
  rows = s.rows;
}

abbrev pub placed_after : List Placed → Section → Placed
placed_after before s = placed_by (λ p. elements_at p before) s

-- sections after earlier ones, of which the latest stands first
abbrev pub placed_from : List Placed → List Section → List Placed
placed_from before [] = []
placed_from before (s ∷ sections) =
    let l : Placed = placed_after before s in
    l ∷ placed_from (l ∷ before) sections

abbrev pub placed : List Section → List Placed
placed sections = placed_from [] sections

-- a cut of a path: a beginning that no number follows
abbrev pub is_cut : Path → Path → Bool
is_cut [] [] = true
is_cut [] (key k ∷ q) = true
is_cut [] (number n ∷ q) = false
is_cut (s ∷ p) [] = false
is_cut (s ∷ p) (t ∷ q) = step_eq s t && is_cut p q

-- a beginning, but not all
abbrev pub is_short : Path → Path → Bool
is_short [] [] = false
is_short [] (t ∷ q) = true
is_short (s ∷ p) [] = false
is_short (s ∷ p) (t ∷ q) = step_eq s t && is_short p q

-- a beginning of at least one step, but not all
abbrev pub is_inner : Path → Path → Bool
is_inner [] q = false
is_inner (s ∷ p) q = is_short (s ∷ p) q

-- the path t is p followed by an inner beginning of the steps
abbrev pub crosses : Path → Path → Path → Bool
crosses [] steps t = is_inner t steps
crosses (s ∷ p) steps [] = false
crosses (s ∷ p) steps (t ∷ q) = step_eq s t && crosses p steps q

-- a row with these steps after a path lies on the path q, or is crossed by its target
abbrev pub row_meets : Path → Path → Path → Path → Bool
row_meets p steps q target = begins (p ++ steps) q || crosses p steps target

abbrev pub rows_meet : Path → Rows → Path → Path → Bool
rows_meet p no_rows q target = false
rows_meet p (row keys at value rows) q target =
    row_meets p (steps_of (texts keys)) q target || rows_meet p rows q target

-- (a), (b) and (c) of the section clash
abbrev pub placed_clash_one_way : Placed → Placed → Bool
placed_clash_one_way i j =
    path_eq (path_of i) (path_of j)
    || ((adds_element j.element && is_cut j.target (path_of i)) || rows_meet (path_of i) i.rows (path_of j) j.target)

abbrev pub placed_clash : Placed → Placed → Bool
placed_clash i j = placed_clash_one_way i j || placed_clash_one_way j i

abbrev pub any_placed_clash : List Section → Bool
any_placed_clash sections = any_pair placed_clash (placed sections)
