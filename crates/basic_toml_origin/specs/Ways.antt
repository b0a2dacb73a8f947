-- How far the way of a section and a path go together, as the code finds it. An array that stands where so many steps of
-- the path are left has `counts` elements so far.
use Rattle.std.specs.Prelude.{ℕ, zero, suc, ◌-◌, Bool, true, false, if◌then◌else◌, List, [], ◌∷◌, Option, Some, None}
use Rattle.std.specs.Prelude.{length, drop, get_or, set, ◌≡◌, ◌≤◌}
use Rattle.basic_toml_grammar.specs.Sections.{KeyTexts}
use Rattle.basic_toml_grammar.specs.Steps.{key, number, Path, step_eq}
use Rattle.basic_toml_origin.specs.declared.ways.Meeting.{Meeting}
use Rattle.basic_toml_origin.specs.declared.ways.Meeting.TheVariants.{Apart, Passes, Reaches}

-- the whole of a way, and a path
abbrev pub compared : Path → Path → Meeting
compared [] p = Reaches (length p)
compared (t ∷ q) [] = Passes
compared (t ∷ q) (s ∷ p) = if step_eq t s then compared q p else Apart

-- the last key of the header of an array section
abbrev pub ends_array : Bool → KeyTexts → Bool
ends_array true [] = true
ends_array true (k ∷ keys) = false
ends_array false keys = false

-- the latest of so many elements, which a header goes into behind a key, but for the last one of an array section
abbrev pub entered : Bool → ℕ → Option ℕ
entered true c = None
entered false zero = None
entered false (suc c) = Some c

-- on into an element, if there is one
abbrev pub into : Option ℕ → (Path → Meeting) → Path → Meeting
into None on p = on p
into (Some n) on [] = Passes
into (Some n) on (s ∷ p) = if step_eq (number n) s then on p else Apart

-- the way of a header, without the number of the element that it adds
abbrev pub meets : List ℕ → Bool → KeyTexts → Path → Meeting
meets counts a [] p = Reaches (length p)
meets counts a (k ∷ keys) [] = Passes
meets counts a (k ∷ keys) (s ∷ p) =
    if step_eq (key k) s then into (entered (ends_array a keys) (get_or counts (length p) 0)) (λ q. meets counts a keys q) p
    else Apart

-- what is left of a path behind a way that it begins with
abbrev pub left_in : Path → Meeting → Option Path
left_in p (Reaches left) = Some (drop (length p - left) p)
left_in p Passes = None
left_in p Apart = None

-- a way that goes on by these steps
abbrev pub further : Meeting → Path → Path → Meeting
further (Reaches left) way p = compared way (drop (length p - left) p)
further Passes way p = Passes
further Apart way p = Apart

-- the way of a section: an array section goes on into the element that it adds, the next one of its array
abbrev pub element_met : List ℕ → Path → Meeting → Meeting
element_met counts p (Reaches left) = further (Reaches left) (number (get_or counts left 0) ∷ []) p
element_met counts p Passes = Passes
element_met counts p Apart = Apart

abbrev pub met : List ℕ → Bool → KeyTexts → Path → Meeting
met counts true [] p = meets counts true [] p
met counts true (k ∷ keys) p = element_met counts p (meets counts true (k ∷ keys) p)
met counts false keys p = meets counts false keys p

-- and the counts behind the section
abbrev pub one_more : List ℕ → Meeting → List ℕ
one_more counts (Reaches left) = set counts left (suc (get_or counts left 0))
one_more counts Passes = counts
one_more counts Apart = counts

abbrev pub counts_behind : List ℕ → Bool → KeyTexts → Path → List ℕ
counts_behind counts true [] p = counts
counts_behind counts true (k ∷ keys) p = one_more counts (meets counts true (k ∷ keys) p)
counts_behind counts false keys p = counts

-- the path is all of the way, or is on it
abbrev pub is_whole : Meeting → Bool
is_whole (Reaches zero) = true
is_whole (Reaches (suc left)) = false
is_whole Passes = false
is_whole Apart = false

abbrev pub is_on_way : Meeting → Bool
is_on_way (Reaches zero) = true
is_on_way (Reaches (suc left)) = false
is_on_way Passes = true
is_on_way Apart = false

-- no more is left than the path has
abbrev pub FitsIn : Path → Meeting → Type 0
FitsIn p m = (left : ℕ) → m ≡ Reaches left → left ≤ length p
