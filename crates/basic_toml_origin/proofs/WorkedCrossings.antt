-- Worked texts: with which key a row goes on from the value at an offset.
use Rattle.std.proofs.Common.{◌≡◌, ℕ, List, Option, Some, None, refl, codes}
use Rattle.std.specs.Str.{chars}
use Rattle.basic_toml_grammar.specs.Entering.{and_then}
use Rattle.basic_toml_grammar.specs.Reader.{sections_of_bytes}
use Rattle.basic_toml_origin.specs.Crossing.{crossing_key}

abbrev crossing : ℕ → List ℕ → Option ℕ
crossing o bytes = and_then (sections_of_bytes bytes) (crossing_key o)

row : crossing 4 (codes "a = 1\na.b = 2\n") ≡ Some 6
unfolding chars lib.Utf8.encode
row = refl

-- the key that ends the keys of the earlier row
last_of_keys : crossing 6 (codes "a.b = 1\na.b.c = 2\n") ≡ Some 10
unfolding chars lib.Utf8.encode
last_of_keys = refl

-- and not at the next row, nor at the last one
first_that_does : crossing 4 (codes "a = 1\nb = 2\na.b = 3\na.c = 4\n") ≡ Some 12
unfolding chars lib.Utf8.encode
first_that_does = refl

-- nor a row before it
row_before : crossing 10 (codes "a.b = 1\na = 2\n") ≡ None
unfolding chars lib.Utf8.encode
row_before = refl

same_keys : crossing 4 (codes "a = 1\na = 2\n") ≡ None
unfolding chars lib.Utf8.encode
same_keys = refl

other_keys : crossing 4 (codes "a = 1\nb.a = 2\n") ≡ None
unfolding chars lib.Utf8.encode
other_keys = refl

no_value_there : crossing 3 (codes "a = 1\na.b = 2\n") ≡ None
unfolding chars lib.Utf8.encode
no_value_there = refl

-- a row of another section goes on from nothing
section : crossing 8 (codes "[t]\na = 1\n[u]\na.b = 2\n") ≡ None
unfolding chars lib.Utf8.encode
section = refl

in_a_section : crossing 12 (codes "[t]\n[u]\na = 1\na.b = 2\n") ≡ Some 14
unfolding chars lib.Utf8.encode
in_a_section = refl

in_an_inline_table : crossing 9 (codes "x = {a = 1, a.b = 2}") ≡ Some 12
unfolding chars lib.Utf8.encode
in_an_inline_table = refl

in_an_array : crossing 14 (codes "x = [1, [{a = 1, a.b = 2}]]") ≡ Some 17
unfolding chars lib.Utf8.encode
in_an_array = refl
