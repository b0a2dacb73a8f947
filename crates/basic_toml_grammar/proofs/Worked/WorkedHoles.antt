-- Worked texts: from a hole to the fault that is due.
use Rattle.std.proofs.Common.{ℕ, true, List, [], ◌∷◌, drop, refl, codes, arith}
use Rattle.std.specs.Str.{chars}
use Rattle.basic_toml_tokens.specs.Text.{folded}
use Rattle.basic_toml_tokens.specs.Strings as strings
use Rattle.basic_toml_tokens.specs.Strings.{IsString}
use Rattle.basic_toml_tokens.specs.TokenAt as token
use Rattle.basic_toml_grammar.specs.Faults.{unquoted_string, wanted, multiline_string_key}
use Rattle.basic_toml_grammar.specs.Grammar as value
use Rattle.basic_toml_grammar.specs.Grammar.{one, bare}
use Rattle.basic_toml_grammar.specs.GrammarFaults.{fault_at}
use Rattle.basic_toml_grammar.specs.Holes as holes
use Rattle.basic_toml_grammar.specs.Viable.{IsDue}
use Rattle.basic_toml_grammar.proofs.Viable.HolesAtTheEnd.{element_end_at_end}
use Rattle.basic_toml_grammar.proofs.Viable.MultilineKeys.{multiline_key_is_due}
use Rattle.basic_toml_grammar.proofs.Viable.UnquotedIsDue.{unquoted_is_due}
use Rattle.basic_toml_grammar.proofs.Worked.WorkedViable.{outside}

-- a word that is no value
abbrev bare_word : List ℕ
bare_word = codes "a=foo"

bare_word_due : IsDue (folded bare_word) 5 (fault_at unquoted_string 2)
unfolding chars lib.Utf8.encode
bare_word_due =
    unquoted_is_due bare_word (codes "a=foo", (refl, refl)) (outside (folded bare_word) refl) {p = 2} {c = 102}
    {next = drop 3 (folded bare_word)}
    (holes.root (holes.this_row refl refl refl (holes.in_value (one (bare refl refl)) refl holes.this_value))) refl refl

-- an array that does not end
abbrev open_array : List ℕ
open_array = codes "a=[1"

open_array_due : IsDue (folded open_array) 4 (fault_at (wanted (codes "a right bracket") (codes "eof")) 4)
unfolding chars lib.Utf8.encode
open_array_due =
    element_end_at_end open_array (codes "a=[1", (refl, refl)) (outside (folded open_array) refl)
    (holes.root (holes.this_row refl refl refl
    (holes.in_value (one (bare refl refl)) refl (holes.array refl (holes.after_this (value.word refl refl refl))))))

-- a multiline string before an equals
abbrev multiline_key : List ℕ
multiline_key = codes "'''a'''=1"

multiline_string : IsString (folded multiline_key) 0 true (97 ∷ []) (drop 7 (folded multiline_key))
unfolding chars
multiline_string = record {
  kind = record { delimiter = 39; multiline = true };
  body = drop 3 (folded multiline_key);
  opens = strings.multiline {next = drop 1 (folded multiline_key)} refl refl (omega arith);
  lines = refl;
  inside = 97 ∷ [];
  closer = drop 4 (folded multiline_key);
  pieces = strings.piece (strings.content refl refl) strings.none;
  tail = [];
  closes = strings.several {n = 3} refl refl (omega arith);
  stands_for = refl;
}

multiline_key_due : IsDue (folded multiline_key) 9 (fault_at multiline_string_key 0)
unfolding chars lib.Utf8.encode
multiline_key_due =
    multiline_key_is_due multiline_key (codes "'''a'''=1", (refl, refl)) (outside (folded multiline_key) refl)
    {p = 0} {c = 39} {next = drop 1 (folded multiline_key)} {source = []}
    (holes.root (holes.this_row refl refl refl (holes.in_keys holes.this_key))) (token.quoted multiline_string)
