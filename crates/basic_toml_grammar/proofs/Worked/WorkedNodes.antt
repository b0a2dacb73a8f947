-- Worked texts: where nodes come from.
use Rattle.std.proofs.Common.{◌≡◌, ℕ, Bool, true, false, List, [], ◌∷◌, Option, Some, None, refl, codes}
use Rattle.std.specs.Str.{chars}
use Rattle.basic_toml_grammar.specs.Sections.{KeyTexts}
use Rattle.basic_toml_grammar.specs.Steps.{key, number, Path}
use Rattle.basic_toml_grammar.specs.Entering.{and_then}
use Rattle.basic_toml_grammar.specs.Nodes.{Node, node_at}
use Rattle.basic_toml_grammar.specs.Reader.{sections_of_bytes}
use Rattle.basic_toml_grammar.proofs.Worked.WorkedDocuments.{a, b}

abbrev node : List ℕ → Path → Option Node
node bytes p = and_then (sections_of_bytes bytes) (λ sections. node_at sections p)

-- its type, its start, its offset, its outer offset and its key path
abbrev told : Bool → List ℕ → ℕ → ℕ → ℕ → KeyTexts → Option Node
told slice name start offset outer keys = Some (record {
  type_name = name;
  start = Some start;
  offset = Some offset;
  outer_offset = Some outer;
  key_path = keys;
  is_slice = slice;
})

abbrev is : List ℕ → ℕ → ℕ → ℕ → KeyTexts → Option Node
is = told false

-- a string that asks for no copy
abbrev slice : ℕ → ℕ → ℕ → KeyTexts → Option Node
slice = told true (codes "string")

nothing : node (codes "") []
    ≡ Some (record {
      type_name = codes "table";
      start = None;
      offset = None;
      outer_offset = None;
      key_path = [];
      is_slice = false;
    })
unfolding chars
nothing = refl

in_an_inline_table : node (codes "p_a = 'a'\np_b = [{c_a = 'a', c_b = '*'}]\n") (key (codes "p_b") ∷ number 0
    ∷ key (codes "c_b") ∷ [])
    ≡ slice 35 35 17 (codes "p_b" ∷ [])
unfolding chars lib.Utf8.encode
in_an_inline_table = refl

in_an_element : node (codes "p_a = 'a'\n[[p_b]]\nc_a = 'a'\nc_b = '*'\n") (key (codes "p_b") ∷ number 0
    ∷ key (codes "c_b") ∷ [])
    ≡ slice 34 34 10 (codes "p_b" ∷ codes "c_b" ∷ [])
unfolding chars lib.Utf8.encode
in_an_element = refl

array_of_tables : node (codes "p_a = 'a'\n[[p_b]]\n") (key (codes "p_b") ∷ [])
    ≡ is (codes "array") 10 10 10 (codes "p_b" ∷ [])
unfolding chars lib.Utf8.encode
array_of_tables = refl

inline_table : node (codes "value = {}") (key (codes "value") ∷ [])
    ≡ is (codes "inline table") 8 8 0 (codes "value" ∷ [])
unfolding chars
inline_table = refl

table : node (codes "[value]\n") (key (codes "value") ∷ []) ≡ is (codes "table") 0 0 0 (codes "value" ∷ [])
unfolding chars
table = refl

array_literal : node (codes "x = {y = [1]}") (key (codes "x") ∷ key (codes "y") ∷ [])
    ≡ is (codes "array") 9 4 4 (codes "x" ∷ [])
unfolding chars
array_literal = refl

dotted_table : node (codes "a.b.c = 1\n") (key a ∷ []) ≡ is (codes "dotted table") 8 8 0 (a ∷ [])
unfolding chars
dotted_table = refl

dotted_in_dotted : node (codes "a.b.c = 1\n") (key a ∷ key b ∷ []) ≡ is (codes "dotted table") 8 8 8 (a ∷ [])
unfolding chars
dotted_in_dotted = refl

-- passed by a header and extended by dots
passed_and_dotted : node (codes "[a.b.c]\n[a]\nb.d = 1\n") (key a ∷ key b ∷ []) ≡ is (codes "table") 8 8 8 (a ∷ b ∷ [])
unfolding chars
passed_and_dotted = refl

value_there : node (codes "[a.b.c]\n[a]\nb.d = 1\n") (key a ∷ key b ∷ key (codes "d") ∷ [])
    ≡ is (codes "integer") 18 18 8 (a ∷ b ∷ [])
unfolding chars
value_there = refl

float_with_a_fraction : node (codes "a = 1.5\n") (key a ∷ []) ≡ is (codes "float") 6 6 0 (a ∷ [])
unfolding chars
float_with_a_fraction = refl

-- a string with an escape
escape : node (codes "a = \"\\t\"\n") (key a ∷ []) ≡ is (codes "string") 4 4 0 (a ∷ [])
unfolding chars lib.Utf8.encode
escape = refl

-- a backslash that stands for itself
backslash : node (codes "a = '\\t'\n") (key a ∷ []) ≡ slice 4 4 0 (a ∷ [])
unfolding chars lib.Utf8.encode
backslash = refl

-- a string of two lines, with a line feed between them, and with CR LF
two_lines : node (codes "a = '''\nx\ny'''") (key a ∷ []) ≡ slice 4 4 0 (a ∷ [])
unfolding chars lib.Utf8.encode
two_lines = refl

return_between : node (codes "a = '''\r\nx\r\ny'''") (key a ∷ []) ≡ is (codes "string") 4 4 0 (a ∷ [])
unfolding chars lib.Utf8.encode
return_between = refl

-- CR LF directly after the opener
return_at_first : node (codes "a = '''\r\nx'''") (key a ∷ []) ≡ slice 4 4 0 (a ∷ [])
unfolding chars lib.Utf8.encode
return_at_first = refl
