-- The parts of a text that are written one after another.
use Rattle.std.specs.Prelude.{◌≡◌, ℕ, zero, suc, Bool, false, not, ◌&&◌, ◌||◌, List, [], ◌∷◌, ◌++◌, Result, IfOk}
use Rattle.basic_toml_value.specs.Data.{Items, Members, no_members, member}
use Rattle.basic_toml_layout.specs.Document.{inline_items, more_items, inline_members, more_members}
use Rattle.basic_toml_layout.specs.Document.{is_row}
use Rattle.basic_toml_layout.specs.Pretty.{stands_in_lines}
use Rattle.basic_toml_layout.specs.Texts.{joined, needs_escape}

-- what is written at the keys that a path spells is added to a text
abbrev pub GoesOn : {A E : Type 0} → List ℕ → List ℕ → List ℕ → (List (List ℕ) → List ℕ) → Result A E → Type 0
GoesOn path before after part result = (keys : List (List ℕ)) → joined keys ≡ path
    → IfOk result (λ _. after ≡ before ++ part keys)

-- a text goes on from another
abbrev pub Extends : List ℕ → List ℕ → Type 0
Extends front text = (more : List ℕ) × (text ≡ front ++ more)

-- what is left to write of an array or an inline table, so many of its parts being written
abbrev pub items_left : ℕ → Items → List ℕ
items_left zero xs = inline_items xs
items_left (suc n) xs = more_items xs

abbrev pub members_left : ℕ → Members → List ℕ
members_left zero ms = inline_members ms
members_left (suc n) ms = more_members ms

-- an entry of the members is a section
abbrev pub has_section : Members → Bool
has_section no_members = false
has_section (member k x ms) = not (is_row x) || has_section ms

-- the first of these bytes, in a string of several lines, stands for something else than itself
abbrev pub needs_line_escape : List ℕ → Bool
needs_line_escape [] = false
needs_line_escape (b ∷ bs) = needs_escape b && not (stands_in_lines b bs)
