-- Worked texts: three in the grammar, by a derivation or by reading, and three that are not.
use Rattle.std.proofs.Common.{◌≡◌, ℕ, List, [], ◌∷◌, true, false, Some, None, refl, codes, pos}
use Rattle.std.specs.Str.{chars}
use lib.Utf8.{encode}
use Rattle.basic_toml_tokens.specs.Text.{Text, folded}
use Rattle.basic_toml_grammar.specs.Sections.{Key, Raw, no_elements, element, no_rows, row, Section}
use Rattle.basic_toml_grammar.specs.Grammar.{bare, one, word, assigned, at_feed, over, row_line, no_more, IsSectionList}
use Rattle.basic_toml_grammar.specs.Reader.{section_list_of}
use Rattle.basic_toml_grammar.specs.NestingFaults.{IsTooDeepAt, here, further}
use Rattle.basic_toml_grammar.proofs.Grammar.ReaderIsSound.{list_read}
use Rattle.basic_toml_grammar.proofs.Grammar.ReaderIsComplete.{list_found}

abbrev pub text : List ℕ → Text
text bytes = folded bytes

abbrev pub k : ℕ → List ℕ → Key
k offset t = record { offset = offset; text = t }

abbrev pub int : ℕ → Raw
int n = Raw.integer (pos n)

a_row : IsSectionList (text (codes "a = 1\n"))
    (record { at = 0; header = []; is_array = false; rows = row (k 0 (codes "a") ∷ []) 4 (int 1) no_rows } ∷ [])
unfolding chars
a_row = record {
  rows = row (k 0 (codes "a") ∷ []) 4 (int 1) no_rows;
  headed = [];
  rest = [];
  root = row_line (assigned (one (bare refl refl)) refl (word refl refl refl)) (at_feed refl) over;
  others = no_more;
  all = refl;
}

-- a line feed, a comment, a header with blanks and quotes, a row with a comment, and an array header
abbrev two : List Section
two =
    record {
      at = 5;
      header = k 7 (codes "a") ∷ k 11 (codes "b c") ∷ [];
      is_array = false;
      rows =
          row (k 19 (codes "x") ∷ []) 23 (int 1) no_rows;
    }
    ∷ record { at = 31; header = k 33 (codes "d") ∷ []; is_array = true; rows = no_rows } ∷ []

two_sections : IsSectionList (text (codes "\n# c\n[ a . 'b c' ]\nx = 1 # end\n[[d]]")) two
unfolding chars lib.Utf8.encode
two_sections = list_read (text (codes "\n# c\n[ a . 'b c' ]\nx = 1 # end\n[[d]]")) two refl

abbrev nested : List Section
nested = record {
  at = 0;
  header = [];
  is_array = false;
  rows = row (k 0 (codes "a") ∷ []) 4
      (Raw.array (element 5 (Raw.array (element 6 (int 1) (element 10 (int 2) no_elements)))
      (element 14 (Raw.inline (row (k 15 (codes "b") ∷ k 17 (codes "c") ∷ []) 21 (int 3) no_rows)) no_elements)))
      no_rows;
} ∷ []

nested_values : IsSectionList (text (codes "a = [[1,\n 2], {b.c = 3},]")) nested
unfolding chars
nested_values = list_read (text (codes "a = [[1,\n 2], {b.c = 3},]")) nested refl

no_list : (t : Text) → section_list_of t ≡ None → (sections : List Section) → IsSectionList t sections → ⊥
no_list t e sections g = let h : section_list_of t ≡ Some sections = list_found t sections g in cc

no_comma : (sections : List Section) → IsSectionList (text (codes "a = [1 2]")) sections → ⊥
unfolding chars
no_comma = no_list (text (codes "a = [1 2]")) refl

comma_before_the_brace : (sections : List Section) → IsSectionList (text (codes "a = {b = 1,}")) sections → ⊥
unfolding chars
comma_before_the_brace = no_list (text (codes "a = {b = 1,}")) refl

a_bracket_more : (sections : List Section) → IsSectionList (text (codes "[a]]")) sections → ⊥
unfolding chars
a_bracket_more = no_list (text (codes "[a]]")) refl

-- U+007F ends a comment, and nothing may stand there
delete_in_a_comment : (sections : List Section) → IsSectionList (text (35 ∷ 32 ∷ 127 ∷ [])) sections → ⊥
unfolding chars
delete_in_a_comment = no_list (text (35 ∷ 32 ∷ 127 ∷ [])) refl

abbrev four_deep : List Section
four_deep = record {
  at = 0;
  header = [];
  is_array = false;
  rows = row (k 0 (codes "a") ∷ []) 4
      (Raw.array (element 5 (Raw.array
      (element 6 (Raw.array (element 7 (Raw.array no_elements) no_elements)) no_elements)) no_elements)) no_rows;
} ∷ []

-- cut after the fourth bracket, at a limit of 4
cut_there : IsTooDeepAt 4 (text (codes "a = [[[[")) 7
unfolding chars encode
cut_there = record {
  bytes = codes "a = [[[[]]]]";
  utf8 = (codes "a = [[[[]]]]", (refl, refl));
  sections = four_deep;
  agree = further (further (further (further (further (further (further here))))));
  grammar = list_read (text (codes "a = [[[[]]]]")) four_deep refl;
  first = refl;
}
