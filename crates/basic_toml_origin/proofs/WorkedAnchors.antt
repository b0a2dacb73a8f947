-- Worked texts: the paths that anchors lead to, and of which paths they are anchors.
use Rattle.std.proofs.Common.{◌≡◌, ℕ, true, false, List, [], ◌∷◌, Option, Some, None, IsSomeAnd, refl, codes}
use Rattle.std.specs.Str.{chars}
use Rattle.basic_toml_grammar.specs.Entering.{and_then}
use Rattle.basic_toml_grammar.specs.Steps.{key, number, Path}
use Rattle.basic_toml_grammar.specs.Reader.{sections_of_bytes}
use Rattle.basic_toml_origin.specs.declared.anchor.Anchor.{Anchor}
use Rattle.basic_toml_origin.specs.declared.anchor.Anchor.TheVariants.{Root, Table, Array, Value}
use Rattle.basic_toml_origin.specs.Anchor.{IsAnchorOf, path_of_anchor}

abbrev path : List ℕ → Anchor → Option Path
path text anchor = and_then (sections_of_bytes text) (λ sections. path_of_anchor sections anchor)

abbrev IsOf : List ℕ → Path → Anchor → Type 0
IsOf text p anchor = IsSomeAnd (sections_of_bytes text) (λ sections. IsAnchorOf sections p anchor)

abbrev tables : List ℕ
tables = codes "[[a]]\n[[a]]\n[a.b]\nc.d = [1]"

document : path (codes "a = 1") Root ≡ Some []
unfolding chars
document = refl

-- an array of tables, by the header of an element, and by one that goes into the latest
array : path tables (Array 0 1) ≡ Some (key (codes "a") ∷ [])
unfolding chars
array = refl

array_passed : path tables (Array 2 1) ≡ Some (key (codes "a") ∷ [])
unfolding chars
array_passed = refl

is_array : IsOf tables (key (codes "a") ∷ []) (Array 2 1)
unfolding chars
is_array = (refl {a = true}, refl {a = true}, refl {a = 1})

-- its elements
first_element : path tables (Table 0 1) ≡ Some (key (codes "a") ∷ number 0 ∷ [])
unfolding chars
first_element = refl

element_passed : path tables (Table 2 1) ≡ Some (key (codes "a") ∷ number 1 ∷ [])
unfolding chars
element_passed = refl

is_element : IsOf tables (key (codes "a") ∷ number 1 ∷ []) (Table 2 1)
unfolding chars
is_element = (refl {a = true}, refl {a = false}, refl {a = 1})

-- a table in the latest
table : path tables (Table 2 2) ≡ Some (key (codes "a") ∷ number 1 ∷ key (codes "b") ∷ [])
unfolding chars
table = refl

-- rows before the first header are a section too, so that the header `[a.b]` has the number 1
table_passed : path (codes "x = 1\n[a.b]\n") (Table 1 1) ≡ Some (key (codes "a") ∷ [])
unfolding chars
table_passed = refl

no_section : path tables (Table 3 1) ≡ None
unfolding chars
no_section = refl

-- a value, a dotted table that begins where it does, and an element of it
value : path tables (Value 24 4)
    ≡ Some (key (codes "a") ∷ number 1 ∷ key (codes "b") ∷ key (codes "c") ∷ key (codes "d") ∷ [])
unfolding chars
value = refl

dotted_table : path tables (Value 24 3)
    ≡ Some (key (codes "a") ∷ number 1 ∷ key (codes "b") ∷ key (codes "c") ∷ [])
unfolding chars
dotted_table = refl

is_dotted_table : IsOf tables (key (codes "a") ∷ number 1 ∷ key (codes "b") ∷ key (codes "c") ∷ []) (Value 24 3)
unfolding chars
is_dotted_table = (refl {a = false}, refl {a = Some 24}, refl {a = 3})

element : path tables (Value 25 4)
    ≡ Some (key (codes "a") ∷ number 1 ∷ key (codes "b") ∷ key (codes "c") ∷ key (codes "d") ∷ number 0 ∷ [])
unfolding chars
element = refl

-- no value begins at the bracket of a header
no_value : path tables (Value 12 2) ≡ None
unfolding chars
no_value = refl
