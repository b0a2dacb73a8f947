-- Worked texts: what they mean, by the definitions alone, computed from their bytes.
use Rattle.std.proofs.Common.{◌≡◌, ℕ, List, [], ◌∷◌, Option, Some, refl, codes, pos}
use Rattle.std.specs.Str.{chars}
use Rattle.basic_toml_value.specs.Data.{Data, items_of, members_of}
use Rattle.basic_toml_grammar.specs.Sections.{KeyTexts}
use Rattle.basic_toml_grammar.specs.Faults.{Fault, FaultKind, dotted_key_invalid_type, duplicate_key}
use Rattle.basic_toml_grammar.specs.Faults.{duplicate_table, redefine_as_array}
use Rattle.basic_toml_grammar.specs.NamedClash.{clash_faults}
use Rattle.basic_toml_grammar.specs.Reader.{sections_of_bytes}
use Rattle.basic_toml_grammar.specs.Document.{document_of}
use Rattle.basic_toml_grammar.specs.Entering.{and_then}

abbrev pub meaning : List ℕ → Option Data
meaning bytes = and_then (sections_of_bytes bytes) document_of

-- the clash faults that a text allows
abbrev pub faults : List ℕ → Option (List Fault)
faults bytes = and_then (sections_of_bytes bytes) (λ sections. Some (clash_faults sections))

abbrev pub fault : FaultKind → ℕ → KeyTexts → Fault
fault kind offset keys = record { kind = kind; offset = Some offset; key_path = keys }

abbrev pub table : List (List ℕ × Data) → Data
table entries = Data.table (members_of entries)

abbrev pub array : List Data → Data
array elements = Data.array (items_of elements)

abbrev pub int : ℕ → Data
int n = Data.integer (pos n)

abbrev empty : Data
empty = table []

abbrev pub a : List ℕ
a = codes "a"

abbrev pub b : List ℕ
b = codes "b"

abbrev pub c : List ℕ
c = codes "c"

abbrev pub x : List ℕ
x = codes "x"

abbrev y : List ℕ
y = codes "y"

the_empty_text : meaning (codes "") ≡ Some empty
unfolding chars
the_empty_text = refl

-- a parent after its child
parent_after_child : meaning (codes "[a.b]\n[a]\nx = 1\n")
    ≡ Some (table ((a, table ((b, empty) ∷ (x, int 1) ∷ [])) ∷ []))
unfolding chars
parent_after_child = refl

nested_arrays : meaning (codes "[[a]]\n[[a.b]]\n[[a]]\n[a.b.c]\n")
    ≡ Some (table ((a, array (table ((b, array (empty ∷ [])) ∷ []) ∷ table ((b, table ((c, empty) ∷ [])) ∷ []) ∷ []))
    ∷ []))
unfolding chars
nested_arrays = refl

-- a header goes into the latest element
latest_element : meaning (codes "[[a]]\n[b]\n[a.c]\n[[a]]\n[a.c]\n")
    ≡ Some (table ((a, array (table ((c, empty) ∷ []) ∷ table ((c, empty) ∷ []) ∷ [])) ∷ (b, empty) ∷ []))
unfolding chars
latest_element = refl

array_after_passing : faults (codes "[[foo.bar]]\n[[foo]]\n")
    ≡ Some (fault redefine_as_array 12 (codes "foo" ∷ []) ∷ [])
unfolding chars
array_after_passing = refl

table_twice : faults (codes "[a]\n[a]\n") ≡ Some (fault (duplicate_table a) 4 (a ∷ []) ∷ [])
unfolding chars
table_twice = refl

dots_into_a_value : faults (codes "a = 1.5\na.b = 2") ≡ Some (fault dotted_key_invalid_type 6 [] ∷ [])
unfolding chars
dots_into_a_value = refl

value_over_dots : faults (codes "a.b.c = 1\n         a.b = 2\n        ")
    ≡ Some (fault (duplicate_key b) 21 (a ∷ []) ∷ [])
unfolding chars
value_over_dots = refl

dots_apart : meaning (codes "a.x = 1\nb = 2\na.y = 3\n")
    ≡ Some (table ((a, table ((x, int 1) ∷ (y, int 3) ∷ [])) ∷ (b, int 2) ∷ []))
unfolding chars
dots_apart = refl

mixed_array : meaning (codes "a = [1, {b = 2}, 'c', 1_0e+0_1]")
    ≡ Some (table ((a, array (int 1 ∷ table ((b, int 2) ∷ []) ∷ Data.string c ∷ Data.float (codes "10E01") ∷ [])) ∷ []))
unfolding chars lib.Utf8.encode
mixed_array = refl

repeat_inside : faults (codes "a = {a=1,a=1}") ≡ Some (fault (duplicate_key a) 9 (a ∷ []) ∷ [])
unfolding chars
repeat_inside = refl

dots_inside : faults (codes "a = {k1 = 1, k1.name = \"joe\"}") ≡ Some (fault dotted_key_invalid_type 10 [] ∷ [])
unfolding chars
dots_inside = refl

dots_in_inline : meaning (codes "x = {a.b = 1, a.c = 2}")
    ≡ Some (table ((x, table ((a, table ((b, int 1) ∷ (c, int 2) ∷ [])) ∷ [])) ∷ []))
unfolding chars
dots_in_inline = refl

-- the resolver
apart_1 : meaning (codes "[b]\nx = 1\n[a.c]\n[a]\ny = 2\n")
    ≡ Some (table ((b, table ((x, int 1) ∷ [])) ∷ (a, table ((c, empty) ∷ (y, int 2) ∷ [])) ∷ []))
unfolding chars
apart_1 = refl

apart_2 : meaning (codes "[a]\ny = 2\n[b]\nx = 1\n[a.c]\n")
    ≡ Some (table ((a, table ((y, int 2) ∷ (c, empty) ∷ [])) ∷ (b, table ((x, int 1) ∷ [])) ∷ []))
unfolding chars
apart_2 = refl

elements_apart : meaning (codes "[[a.b]]\n[a.c]\n[[a.b]]\nx = 1\n")
    ≡ Some (table ((a, table ((b, array (empty ∷ table ((x, int 1) ∷ []) ∷ [])) ∷ (c, empty) ∷ [])) ∷ []))
unfolding chars
elements_apart = refl

value_over_table : faults (codes "[a.b]\n[a]\nb = 1\n") ≡ Some (fault (duplicate_key b) 10 (a ∷ []) ∷ [])
unfolding chars
value_over_table = refl

array_over_value : faults (codes "[[a]]\nb = 1\n[[a.b]]\n[[a]]\n[[a.b]]\n")
    ≡ Some (fault (duplicate_key b) 16 (a ∷ []) ∷ [])
unfolding chars
array_over_value = refl

table_over_element : faults (codes "[[a]]\n[a]\n") ≡ Some (fault (duplicate_table a) 6 (a ∷ []) ∷ [])
unfolding chars
table_over_element = refl

array_over_table : faults (codes "[a]\n[[a]]\n") ≡ Some (fault (duplicate_table a) 4 (a ∷ []) ∷ [])
unfolding chars
array_over_table = refl

-- `DottedKeyInvalidType` comes first over the whole list
dots_first : faults (codes "a = 1\na = 2\n[s]\nb = 1\nb.c = 2\n") ≡ Some (fault dotted_key_invalid_type 20 [] ∷ [])
unfolding chars
dots_first = refl

array_over_passed_element : faults (codes "[[a]]\n[a.b.c]\n[[a.b]]\n")
    ≡ Some (fault redefine_as_array 14 (a ∷ b ∷ []) ∷ [])
unfolding chars
array_over_passed_element = refl

deep_arrays : meaning (codes "[[a]]\n[[a.b]]\n[a.b.c]\n[x]\n[[a.b]]\n[a.b.c]\n[[a]]\n[[a.b]]\n")
    ≡ Some (table ((
      a,
      array (table ((b, array (table ((c, empty) ∷ []) ∷ table ((c, empty) ∷ []) ∷ [])) ∷ [])
          ∷ table ((b, array (empty ∷ [])) ∷ []) ∷ []),
    ) ∷ (x, empty) ∷ []))
unfolding chars
deep_arrays = refl

value_in_literal_array : faults (codes "a = [2]\n[[a]]\n") ≡ Some (fault (duplicate_key a) 10 [] ∷ [])
unfolding chars
value_in_literal_array = refl

header_over_literal_array : faults (codes "a = []\n[a.b]\n") ≡ Some (fault (duplicate_key a) 8 [] ∷ [])
unfolding chars
header_over_literal_array = refl

table_twice_apart : faults (codes "[a]\nc = 1\n[a.b]\n[a]\n") ≡ Some (fault (duplicate_table a) 16 (a ∷ []) ∷ [])
unfolding chars
table_twice_apart = refl

-- dotted keys and headers in one table
shared_1 : meaning (codes "a.b = 1\n[a.c]\n") ≡ Some (table ((a, table ((b, int 1) ∷ (c, empty) ∷ [])) ∷ []))
unfolding chars
shared_1 = refl

shared_2 : meaning (codes "a.b = 1\n[[a.c]]\n")
    ≡ Some (table ((a, table ((b, int 1) ∷ (c, array (empty ∷ [])) ∷ [])) ∷ []))
unfolding chars
shared_2 = refl

shared_3 : meaning (codes "[a.b.c]\n[a]\nb.d = 1\n")
    ≡ Some (table ((a, table ((b, table ((c, empty) ∷ (codes "d", int 1) ∷ [])) ∷ [])) ∷ []))
unfolding chars
shared_3 = refl

dotted_then_named : faults (codes "a.b = 1\n[a]\n") ≡ Some (fault (duplicate_key a) 9 [] ∷ [])
unfolding chars
dotted_then_named = refl

value_then_header : faults (codes "a.b = 1\n[a.b.c]\n") ≡ Some (fault (duplicate_key b) 11 (a ∷ []) ∷ [])
unfolding chars
value_then_header = refl

dotted_then_array : faults (codes "a.b.c = 1\n[[a.b]]\n") ≡ Some (fault (duplicate_key b) 14 (a ∷ []) ∷ [])
unfolding chars
dotted_then_array = refl

header_then_value : faults (codes "[a.b.c]\n[a]\nb.c = 1\n") ≡ Some (fault (duplicate_key c) 14 (a ∷ b ∷ []) ∷ [])
unfolding chars
header_then_value = refl

inline_then_header : faults (codes "[a]\nb = {}\n[a.b]\n") ≡ Some (fault (duplicate_key b) 14 (a ∷ []) ∷ [])
unfolding chars
inline_then_header = refl

-- passed by a header and extended by dots, then named
passed_and_dotted : faults (codes "[a.b.c]\n[a]\nb.d = 1\n[a.b]\n") ≡ Some (fault (duplicate_key b) 23 (a ∷ []) ∷ [])
unfolding chars
passed_and_dotted = refl

-- each pair names its own
two_right_names : faults (codes "[a.b]\n[a]\n[[a]]\n")
    ≡ Some (fault redefine_as_array 10 (a ∷ []) ∷ fault (duplicate_table a) 10 (a ∷ []) ∷ [])
unfolding chars
two_right_names = refl

by_indexed_paths : faults (codes "[a.a]\n[[a]]\n[a.a]\n") ≡ Some (fault redefine_as_array 6 (a ∷ []) ∷ [])
unfolding chars
by_indexed_paths = refl
