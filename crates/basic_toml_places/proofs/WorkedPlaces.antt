-- Worked texts: the offsets of their values, and the paths to these.
use Rattle.std.proofs.Common.{◌≡◌, ℕ, List, [], ◌∷◌, Option, Some, None, refl, codes, encode_utf8_all}
use Rattle.std.specs.Str.{chars}
use lib.Utf8.{encode}
use Rattle.basic_toml_grammar.specs.Entering.{and_then}
use Rattle.basic_toml_grammar.specs.Steps.{key, number, Path}
use Rattle.basic_toml_grammar.specs.Reader.{sections_of_bytes}
use Rattle.basic_toml_places.specs.Places.{value_offsets, path_at, as_far_as}

abbrev offsets_of : List ℕ → Option (List ℕ)
offsets_of bytes = and_then (sections_of_bytes bytes) (λ sections. Some (value_offsets sections))

-- rows of the root, and then those of a section
two_sections : offsets_of (codes "a = 1\n[b]\nc = 'x'") ≡ Some (4 ∷ 14 ∷ [])
unfolding chars
two_sections = refl

-- an array and an inline table stand before what they hold
nested : offsets_of (codes "a = [[1, 2], {b.c = 3}]") ≡ Some (4 ∷ 5 ∷ 6 ∷ 9 ∷ 13 ∷ 20 ∷ [])
unfolding chars
nested = refl

-- a float with a fraction stands behind its period, and still before what follows it
floats : offsets_of (codes "a = [1.5,2.5,3e1]") ≡ Some (4 ∷ 7 ∷ 11 ∷ 13 ∷ [])
unfolding chars
floats = refl

-- a section without rows has none, and a string may hold characters of several bytes
strings : offsets_of (encode_utf8_all (codes "a = 'é'\r\n[b]\n[[c]]\nd = ''")) ≡ Some (4 ∷ 24 ∷ [])
unfolding chars lib.Utf8.encode
strings = refl

abbrev path_of : List ℕ → ℕ → Option Path
path_of bytes at = and_then (sections_of_bytes bytes) (λ sections. path_at sections at)

-- an inline table, and a value in it, in the second element of an array of tables
in_an_element : path_of (codes "[[a]]\n[[a]]\nb = [{c = 1}]") 22
    ≡ Some (key (codes "a") ∷ number 1 ∷ key (codes "b") ∷ number 0 ∷ key (codes "c") ∷ [])
unfolding chars
in_an_element = refl

at_its_brace : path_of (codes "[[a]]\n[[a]]\nb = [{c = 1}]") 17
    ≡ Some (key (codes "a") ∷ number 1 ∷ key (codes "b") ∷ number 0 ∷ [])
unfolding chars
at_its_brace = refl

-- no value begins at a key
at_a_key : path_of (codes "[[a]]\n[[a]]\nb = [{c = 1}]") 18 ≡ None
unfolding chars
at_a_key = refl

-- The dotted table `a.b` begins where its value does, and two keys lead to it. A number stays behind the last of so
-- many keys where no key follows it.
dotted : and_then (path_of (codes "a.b.c = [1]") 8) (λ p. Some (as_far_as 2 p))
    ≡ Some (key (codes "a") ∷ key (codes "b") ∷ [])
unfolding chars
dotted = refl

element_with_all_keys : and_then (path_of (codes "a.b.c = [1]") 9) (λ p. Some (as_far_as 3 p))
    ≡ Some (key (codes "a") ∷ key (codes "b") ∷ key (codes "c") ∷ number 0 ∷ [])
unfolding chars
element_with_all_keys = refl

no_number_behind : and_then (path_of (codes "a = [{b = 1}]") 10) (λ p. Some (as_far_as 1 p))
    ≡ Some (key (codes "a") ∷ [])
unfolding chars
no_number_behind = refl
