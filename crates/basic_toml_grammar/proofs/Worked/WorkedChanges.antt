-- Worked texts that are written in another way, and worked lists in another order.
use Rattle.std.proofs.Common.{◌≡◌, ℕ, Bool, true, false, List, [], ◌∷◌, refl, codes}
use Rattle.std.specs.Str.{chars}
use lib.Utf8.{encode}
use Rattle.basic_toml_tokens.specs.Text.{folded}
use Rattle.basic_toml_grammar.specs.Sections.{no_rows, Section}
use Rattle.basic_toml_grammar.specs.Steps.{Path}
use Rattle.basic_toml_grammar.specs.Document.{tree_of_sections}
use Rattle.basic_toml_grammar.specs.Respelled.{with_returns, with_byte_order_mark, has_byte_order_mark}
use Rattle.basic_toml_grammar.specs.Statements.{Reordered, turned, with_paths}
use Rattle.basic_toml_grammar.proofs.Worked.WorkedDocuments.{table, array}

returns_put_in : with_returns (codes "a\n\nb") ≡ codes "a\r\n\r\nb"
returns_put_in = refl

-- the line feeds stand at the offsets of the CR
returns_folded : folded (with_returns (codes "a\nb")) ≡ (0, 97) ∷ (1, 10) ∷ (3, 98) ∷ []
unfolding chars
returns_folded = refl

mark_put_in_front : with_byte_order_mark (codes "a") ≡ 0xEF ∷ 0xBB ∷ 0xBF ∷ 97 ∷ []
unfolding encode
mark_put_in_front = refl

mark_skipped : folded (with_byte_order_mark (codes "a")) ≡ (3, 97) ∷ []
unfolding encode chars
mark_skipped = refl

mark_seen : has_byte_order_mark (with_byte_order_mark []) ≡ true
unfolding encode chars
mark_seen = refl

abbrev headed : Bool → List ℕ → Section
headed is_array name = record {
  at = 0;
  header = record { offset = 0; text = name } ∷ [];
  is_array = is_array;
  rows =
      no_rows;
}

-- [[a]], [b], [[a]]; and [b] first
abbrev list : List Section
list = headed true (codes "a") ∷ headed false (codes "b") ∷ headed true (codes "a") ∷ []

abbrev turned_list : List Section
turned_list = headed false (codes "b") ∷ headed true (codes "a") ∷ headed true (codes "a") ∷ []

paths_kept : Reordered (Section × Path) (with_paths list) (with_paths turned_list)
paths_kept = turned

trees : (tree_of_sections list ≡ table ((codes "a", array (table [] ∷ table [] ∷ [])) ∷ (codes "b", table []) ∷ []))
    × (tree_of_sections turned_list
    ≡ table ((codes "b", table []) ∷ (codes "a", array (table [] ∷ table [] ∷ [])) ∷ []))
trees = (refl, refl)
