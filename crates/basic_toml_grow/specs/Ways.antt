-- The way that a header takes through the tree: its keys, each with the number of the latest element where it meets an
-- array of tables, and at last that of the element which it adds.
use Rattle.std.specs.Prelude.{◌≡◌, ℕ, zero, suc, Bool, true, false, List, [], ◌∷◌, Option, IsSomeAnd}
use Rattle.basic_toml_grammar.specs.Sections.{KeyTexts}
use Rattle.basic_toml_grammar.specs.Steps.{Step, key, number, Path, begins}
use Rattle.basic_toml_grammar.specs.Trie.{Trie, below, count}
use Rattle.basic_toml_grammar.specs.IndexedPath.{Located}
use Rattle.basic_toml_grow.specs.Origins.{Origin, Origins, Within, no_origins, or_else, along, rows_origins}

-- on into the latest of so many elements, where there are any
abbrev pub way_on : (Trie → Path) → ℕ → Trie → Path
way_on f zero t = f t
way_on f (suc n) t = number n ∷ f (below (number n) t)

abbrev pub way : Bool → KeyTexts → Trie → Path
way is_array [] t = []
way true (k ∷ []) t = key k ∷ number (count (below (key k) t)) ∷ []
way false (k ∷ []) t = key k ∷ way_on (λ t. []) (count (below (key k) t)) (below (key k) t)
way is_array (k ∷ l ∷ keys) t =
    key k ∷ way_on (λ t. way is_array (l ∷ keys) t) (count (below (key k) t)) (below (key k) t)

-- from what stands at a key, by the keys that are left
abbrev pub way_by : Bool → KeyTexts → Trie → Path
way_by is_array keys t = way_on (λ t. way is_array keys t) (count t) t

abbrev pub way_at : Bool → KeyTexts → Trie → Path
way_at true [] t = number (count t) ∷ []
way_at is_array keys t = way_by is_array keys t

-- new origins come at the end of a way, beside those of before; of what is on the way itself nothing is said
abbrev pub GrowsAlong : Path → Origins → Origins → Origins → Type 0
GrowsAlong w new before after = (p : Path) → begins p w ≡ false → after p ≡ or_else before (along w new) p

-- headers made what this is the origin of, and the header of this section is the latest that leads there
abbrev pub IsMarked : ℕ → Option Origin → Type 0
IsMarked n o = IsSomeAnd o (λ o. (o.made ≡ true) × (o.section ≡ n))

-- so of all that stands on a way, and of a table and all that stands on a way below it
abbrev pub MarksWay : ℕ → Path → Origins → Type 0
MarksWay n w origins = (p : Path) → begins p w ≡ true → IsMarked n (origins p)

pub record MarksTable (n : ℕ) (w : Path) (t : Within) : Type 0 where
  pub made : t.made ≡ true
  pub section : t.section ≡ n
  pub below : (s : Step) (p : Path) → begins (s ∷ p) w ≡ true → IsMarked n (t.below (s ∷ p))

-- what the rows of sections bring, in order; the first of these sections has this number
abbrev pub sections_origins : ℕ → List Located → Origins
sections_origins n [] = no_origins
sections_origins n (l ∷ ls) =
    or_else (along l.path (rows_origins n l.section.rows)) (sections_origins (suc n) ls)
