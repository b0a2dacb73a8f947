-- Worked texts: the paths that keys lead to, by the offsets of the keys.
use Rattle.std.proofs.Common.{◌≡◌, ℕ, List, [], ◌∷◌, Option, Some, None, refl, codes}
use Rattle.std.specs.Str.{chars}
use Rattle.basic_toml_grammar.specs.Entering.{and_then}
use Rattle.basic_toml_grammar.specs.Steps.{key, number, Path}
use Rattle.basic_toml_grammar.specs.Reader.{sections_of_bytes}
use Rattle.basic_toml_origin.specs.KeyPath.{key_path_at}

abbrev at_key : List ℕ → ℕ → Option Path
at_key text at = and_then (sections_of_bytes text) (λ sections. key_path_at sections at)

-- each key of a row, and not its value
first_key : at_key (codes "a.b.c = 1") 0 ≡ Some (key (codes "a") ∷ [])
unfolding chars
first_key = refl

second_key : at_key (codes "a.b.c = 1") 2 ≡ Some (key (codes "a") ∷ key (codes "b") ∷ [])
unfolding chars
second_key = refl

last_key : at_key (codes "a.b.c = 1") 4 ≡ Some (key (codes "a") ∷ key (codes "b") ∷ key (codes "c") ∷ [])
unfolding chars
last_key = refl

its_value : at_key (codes "a.b.c = 1") 8 ≡ None
unfolding chars
its_value = refl

-- a key of a double header leads to the array, the last one too
element_added : at_key (codes "[[a]]\n[[a]]\n[[a.b]]\nc = [{d = 1}]") 8 ≡ Some (key (codes "a") ∷ [])
unfolding chars
element_added = refl

array_passed : at_key (codes "[[a]]\n[[a]]\n[[a.b]]\nc = [{d = 1}]") 14 ≡ Some (key (codes "a") ∷ [])
unfolding chars
array_passed = refl

element_below : at_key (codes "[[a]]\n[[a]]\n[[a.b]]\nc = [{d = 1}]") 16
    ≡ Some (key (codes "a") ∷ number 1 ∷ key (codes "b") ∷ [])
unfolding chars
element_below = refl

-- within an inline table in an array
key_within : at_key (codes "[[a]]\n[[a]]\n[[a.b]]\nc = [{d = 1}]") 26
    ≡ Some (key (codes "a") ∷ number 1 ∷ key (codes "b") ∷ number 0 ∷ key (codes "c") ∷ number 0 ∷ key (codes "d") ∷ [])
unfolding chars
key_within = refl
