-- Worked texts: where what a path leads to is written.
use Rattle.std.proofs.Common.{◌≡◌, ℕ, List, [], ◌∷◌, Option, Some, None, refl, codes}
use Rattle.std.specs.Str.{chars}
use Rattle.basic_toml_grammar.specs.Steps.{key, number, Path}
use Rattle.basic_toml_grammar.specs.Entering.{and_then}
use Rattle.basic_toml_grammar.specs.Reader.{sections_of_bytes}
use Rattle.basic_toml_origin.specs.declared.origin.Origin.{Origin}
use Rattle.basic_toml_origin.specs.Before.{sections_before}
use Rattle.basic_toml_origin.specs.Origin.{origin_at}

abbrev origin : List ℕ → Path → Option Origin
origin bytes p = and_then (sections_of_bytes bytes) (λ sections. origin_at sections p)

abbrev before : ℕ → List ℕ → Path → Option Origin
before offset bytes p = and_then (sections_of_bytes bytes) (λ sections. origin_at (sections_before offset sections) p)

abbrev at : ℕ → Option ℕ → Option Origin
at offset k = Some (record { at = offset; key = k })

nothing : origin (codes "") [] ≡ None
unfolding chars
nothing = refl

row : origin (codes "name = 1\nverison = 2\n[needs]\n[features]\n") (key (codes "verison") ∷ []) ≡ at 19 (Some 9)
unfolding chars lib.Utf8.encode
row = refl

-- not at the last header of the text
header : origin (codes "\n\n\n\n[needs.x]\n\n\n\n[features.z]\n") (key (codes "needs") ∷ key (codes "x") ∷ [])
    ≡ at 4 (Some 11)
unfolding chars lib.Utf8.encode
header = refl

header_that_passes : origin (codes "\n[needs.x]\n[needs.y]\n") (key (codes "needs") ∷ []) ≡ at 1 (Some 2)
unfolding chars lib.Utf8.encode
header_that_passes = refl

-- the header that names it, though another one passes before
header_that_names : origin (codes "[a.b]\n[a]\n") (key (codes "a") ∷ []) ≡ at 6 (Some 7)
unfolding chars lib.Utf8.encode
header_that_names = refl

array : origin (codes "name = [\"a\"]") (key (codes "name") ∷ []) ≡ at 7 (Some 0)
unfolding chars lib.Utf8.encode
array = refl

element : origin (codes "name = [\"a\"]") (key (codes "name") ∷ number 0 ∷ []) ≡ at 8 None
unfolding chars lib.Utf8.encode
element = refl

array_of_tables : origin (codes "[[a]]\n[[a]]\n") (key (codes "a") ∷ []) ≡ at 0 (Some 2)
unfolding chars lib.Utf8.encode
array_of_tables = refl

-- the element's own header
element_table : origin (codes "[[a]]\n[[a]]\n") (key (codes "a") ∷ number 1 ∷ []) ≡ at 6 None
unfolding chars lib.Utf8.encode
element_table = refl

-- each element counts its own
element_within : origin (codes "[[a]]\n[[a.b]]\n[[a]]\n[[a.b]]\n[[a.b]]\n") (key (codes "a") ∷ number 1 ∷ key (codes "b")
    ∷ number 1 ∷ []) ≡ at 28 None
unfolding chars lib.Utf8.encode
element_within = refl

array_within : origin (codes "[[a]]\n[[a.b]]\n[[a]]\n[[a.b]]\n[[a.b]]\n") (key (codes "a") ∷ number 1 ∷ key (codes "b")
    ∷ []) ≡ at 20 (Some 24)
unfolding chars lib.Utf8.encode
array_within = refl

-- no key of an array of tables leads on without a number
no_number : origin (codes "[[a]]\n[a.b]\n") (key (codes "a") ∷ key (codes "b") ∷ []) ≡ None
unfolding chars lib.Utf8.encode
no_number = refl

dotted_table : origin (codes "a.b.c = 1\n") (key (codes "a") ∷ key (codes "b") ∷ []) ≡ at 2 (Some 2)
unfolding chars lib.Utf8.encode
dotted_table = refl

below_a_value : origin (codes "a = 1\n") (key (codes "a") ∷ key (codes "b") ∷ []) ≡ None
unfolding chars lib.Utf8.encode
below_a_value = refl

in_an_inline_table : origin (codes "x = {y.z = [1, 2]}") (key (codes "x") ∷ key (codes "y") ∷ []) ≡ at 5 (Some 5)
unfolding chars lib.Utf8.encode
in_an_inline_table = refl

at_its_row : origin (codes "x = {y.z = [1, 2]}") (key (codes "x") ∷ key (codes "y") ∷ key (codes "z") ∷ []) ≡ at 11 (Some 7)
unfolding chars lib.Utf8.encode
at_its_row = refl

in_its_array : origin (codes "x = {y.z = [1, 2]}") (key (codes "x") ∷ key (codes "y") ∷ key (codes "z") ∷ number 1 ∷ [])
    ≡ at 15 None
unfolding chars lib.Utf8.encode
in_its_array = refl

-- before the key of the header that names it
before_a_header : before 7 (codes "[a.b]\n[a]\n") (key (codes "a") ∷ []) ≡ at 0 (Some 1)
unfolding chars lib.Utf8.encode
before_a_header = refl

behind_a_header : before 8 (codes "[a.b]\n[a]\n") (key (codes "a") ∷ []) ≡ at 6 (Some 7)
unfolding chars lib.Utf8.encode
behind_a_header = refl

-- before the value of a row
before_a_row : before 10 (codes "a = 1\nb = 2\n") (key (codes "b") ∷ []) ≡ None
unfolding chars lib.Utf8.encode
before_a_row = refl

behind_a_row : before 11 (codes "a = 1\nb = 2\n") (key (codes "b") ∷ []) ≡ at 10 (Some 6)
unfolding chars lib.Utf8.encode
behind_a_row = refl

-- each element counts those before it alone
before_an_element : before 8 (codes "[[a]]\n[[a]]\n") (key (codes "a") ∷ number 1 ∷ []) ≡ None
unfolding chars lib.Utf8.encode
before_an_element = refl
