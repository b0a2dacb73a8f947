-- Section clash: two different sections i and j where
-- (a) their indexed paths are equal; or
-- (b) j is an array section, and some cut of i is the indexed path of j without its last number; or, for a row of i
--     with key path p, where P is the indexed path of i followed by p,
-- (c1) P equals or begins the indexed path of j; or
-- (c2) the indexed path of j, without its last number where j is an array section, is the indexed path of i followed by
--     a beginning of p that has at least one key and fewer than all.
-- So a header may pass through a table that dotted keys made, and neither name it nor cross a row's own path.
-- 'Table' and 'Array of Tables' of TOML v0.5.0; that dotted keys and headers may share a table is own.
use Rattle.std.specs.Prelude.{Bool, false, ◌&&◌, ◌||◌, if◌then◌else◌, List, [], ◌∷◌, ◌++◌, map}
use Rattle.std.specs.List.{list_any}
use Rattle.basic_toml_grammar.specs.Sections.{texts, Rows, no_rows, row, Section}
use Rattle.basic_toml_grammar.specs.Steps.{key, number, Path, begins, path_eq, steps_of}
use Rattle.basic_toml_grammar.specs.IndexedPath.{Located, located}

abbrev pub without_last_number : Path → Path
without_last_number [] = []
without_last_number (key k ∷ []) = key k ∷ []
without_last_number (number n ∷ []) = []
without_last_number (s ∷ t ∷ p) = s ∷ without_last_number (t ∷ p)

-- where the header leads: the indexed path, of an array section without the number of its own element
abbrev pub target : Located → Path
target j = if j.section.is_array then without_last_number j.path else j.path

-- the beginnings of a path that have at least one step and fewer than all
abbrev pub inner_beginnings : Path → List Path
inner_beginnings [] = []
inner_beginnings (s ∷ []) = []
inner_beginnings (s ∷ t ∷ p) = (s ∷ []) ∷ map (λ q. s ∷ q) (inner_beginnings (t ∷ p))

-- (a)
abbrev pub same_path : Located → Located → Bool
same_path i j = path_eq i.path j.path

-- (b)
abbrev pub array_on_cut : Located → Located → Bool
array_on_cut i j = j.section.is_array && list_any (λ c. path_eq c (target j)) i.cuts

-- (c1) and (c2) of a row with these steps
abbrev pub row_on_path : Path → Path → Located → Bool
row_on_path path steps j = begins (path ++ steps) j.path

abbrev pub row_crossed : Path → Path → Located → Bool
row_crossed path steps j = list_any (λ b. path_eq (path ++ b) (target j)) (inner_beginnings steps)

-- (c) of some row
abbrev pub any_row_clashes : Path → Rows → Located → Bool
any_row_clashes path no_rows j = false
any_row_clashes path (row keys at value rows) j =
    let steps = steps_of (texts keys) in
    (row_on_path path steps j || row_crossed path steps j) || any_row_clashes path rows j

abbrev pub clashes_one_way : Located → Located → Bool
clashes_one_way i j = same_path i j || (array_on_cut i j || any_row_clashes i.path i.section.rows j)

abbrev pub clashes : Located → Located → Bool
clashes i j = clashes_one_way i j || clashes_one_way j i

-- some element is so related to a later one
abbrev pub any_pair : {A : Type 0} → (A → A → Bool) → List A → Bool
any_pair r [] = false
any_pair r (x ∷ xs) = list_any (r x) xs || any_pair r xs

abbrev pub sections_clash : List Section → Bool
sections_clash sections = any_pair clashes (located sections)
