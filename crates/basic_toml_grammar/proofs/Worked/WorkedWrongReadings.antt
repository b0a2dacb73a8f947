-- Readings that are wrong: under each of them the row below would fail.
use Rattle.std.proofs.Common.{◌≡◌, [], ◌∷◌, Some, None, refl, codes}
use Rattle.std.specs.Str.{chars}
use Rattle.basic_toml_grammar.specs.Faults.{duplicate_key, duplicate_table, redefine_as_array}
use Rattle.basic_toml_grammar.proofs.Worked.WorkedDocuments.{a, b, x, meaning, faults, fault, table, array}

-- the last of two equal keys wins
last_key_wins : meaning (codes "a = 1\na = 2\n") ≡ None
unfolding chars
last_key_wins = refl

-- a parent is refused after its child
refuses_the_parent_after_the_child : meaning (codes "[a.b]\n[a]\n")
    ≡ Some (table ((a, table ((b, table []) ∷ [])) ∷ []))
unfolding chars
refuses_the_parent_after_the_child = refl

-- a header goes into the first element
files_under_the_first_element : meaning (codes "[[a]]\n[[a]]\n[a.b]\n")
    ≡ Some (table ((a, array (table [] ∷ table ((b, table []) ∷ []) ∷ [])) ∷ []))
unfolding chars
files_under_the_first_element = refl

header_extends_an_inline_table : meaning (codes "a = {x = 1}\n[a]\nb = 2\n") ≡ None
unfolding chars
header_extends_an_inline_table = refl

header_passes_an_inline_table : faults (codes "a = {x = 1}\n[a.b]\n") ≡ Some (fault (duplicate_key a) 13 [] ∷ [])
unfolding chars
header_passes_an_inline_table = refl

array_header_after_a_passing_header : faults (codes "[a.b]\n[[a]]\n") ≡ Some (fault redefine_as_array 6 (a ∷ []) ∷ [])
unfolding chars
array_header_after_a_passing_header = refl

-- of two sections the first is named
names_the_first_section : faults (codes "[x]\n[a]\n[x]\n") ≡ Some (fault (duplicate_table x) 8 (x ∷ []) ∷ [])
unfolding chars
names_the_first_section = refl
