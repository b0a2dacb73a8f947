-- Indexed path: where the table of a section stands in the tree. 'Array of Tables' of TOML v0.5.0: a header below an
-- array of tables belongs to the array's latest element.
-- The cut at 0 of a section's path is empty. The cut at l is the cut at l - 1, then the header's key l, then the
-- number c - 1 where c is positive. Here c counts the array sections, this one or earlier, whose whole header is the
-- first l keys and whose cut at l - 1 is the same. The indexed path is the cut at the number of keys.
use Rattle.std.specs.Prelude.{ℕ, zero, suc, ◌&&◌, if◌then◌else◌, List, [], ◌∷◌, ◌++◌, length, take}
use Rattle.basic_toml_grammar.specs.Sections.{KeyTexts, texts, Section}
use Rattle.basic_toml_grammar.specs.Steps.{key, number, Path, path_eq, steps_of}

-- the step to the latest of c elements, where there is one
abbrev pub latest : ℕ → Path
latest zero = []
latest (suc c) = number c ∷ []

-- key l + 1 of a header, where there is one
abbrev pub key_at : ℕ → KeyTexts → Path
key_at l [] = []
key_at zero (k ∷ keys) = key k ∷ []
key_at (suc l) (k ∷ keys) = key_at l keys

-- How many of these sections, the latest first, are array sections with this whole header whose cut is this path.
-- `cut` gives the cut of the first section of a list.
abbrev pub count_of : (List Section → KeyTexts → Path) → KeyTexts → Path → List Section → ℕ
count_of cut header path [] = 0
count_of cut header path (s ∷ earlier) =
    if (s.is_array && path_eq (steps_of (texts s.header)) (steps_of header)) && path_eq
    (cut (s ∷ earlier) (texts s.header)) path
    then suc (count_of cut header path earlier) else count_of cut header path earlier

-- the cut at l of the path of a section with this header, where it and the earlier ones stand the latest first
abbrev pub cut : ℕ → List Section → KeyTexts → Path
cut zero sections header = []
cut (suc l) sections header =
    let before = cut l sections header in
    (before ++ key_at l header) ++ latest (count_of (cut l) (take (suc l) header) before sections)

-- the cuts up to this one, the longest first
abbrev pub cuts_to : ℕ → List Section → KeyTexts → List Path
cuts_to zero sections header = [] ∷ []
cuts_to (suc l) sections header = cut (suc l) sections header ∷ cuts_to l sections header

-- a section with its indexed path and all cuts of it
pub record Located : Type 0 where
  pub section : Section
  pub path : Path
  pub cuts : List Path

abbrev pub located_after : List Section → Section → Located
located_after earlier s =
    let header = texts s.header in
    record {
      section = s;
      path = cut (length header) (s ∷ earlier) header;
      cuts =
          cuts_to (length header) (s ∷ earlier) header;
    }

-- sections with their paths, after earlier ones that stand the latest first
abbrev pub located_from : List Section → List Section → List Located
located_from earlier [] = []
located_from earlier (s ∷ sections) = located_after earlier s ∷ located_from (s ∷ earlier) sections

abbrev pub located : List Section → List Located
located sections = located_from [] sections
