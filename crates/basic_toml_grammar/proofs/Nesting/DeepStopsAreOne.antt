-- A text is too deep at one offset at most.
use Rattle.std.proofs.Common.{◌≡◌, ℕ, ◌+◌, ◌==◌, refl, ap, sym, ◌∙◌, subst, arith}
use Rattle.basic_toml_tokens.specs.Text.{Text, is_comment, after_blanks}
use Rattle.basic_toml_grammar.specs.Sections.{Key}
use Rattle.basic_toml_grammar.specs.Grammar.{after_gap}
use Rattle.basic_toml_grammar.specs.Reader.{char_at}
use Rattle.basic_toml_grammar.specs.DeepStops as deep
use Rattle.basic_toml_grammar.specs.DeepStops.{DeepKeys, DeepValue, DeepElements, DeepFields, DeepRow, DeepRows}
use Rattle.basic_toml_grammar.specs.DeepStops.{DeepHeader, DeepSection, DeepSections, DeepStop}
use Rattle.basic_toml_grammar.specs.Statements.{DeepStopsAreOne}
use Rattle.basic_toml_grammar.proofs.Grammar.GrammarIsUnambiguous.{sign_same, heads_not, key_same, word_sign}
use Rattle.basic_toml_grammar.proofs.Nesting.DeepStopsAreHoles.{keys_head, row_head, line_missed}
use Rattle.basic_toml_grammar.proofs.Nesting.WithinTheLimit.{no_end, past_key, keys_within, past_equals, value_within}
use Rattle.basic_toml_grammar.proofs.Nesting.WithinTheLimit.{past_element, row_within, past_field, past_empty_line}
use Rattle.basic_toml_grammar.proofs.Nesting.WithinTheLimit.{past_row, rows_within, header_within, past_header}
use Rattle.basic_toml_grammar.proofs.Nesting.WithinTheLimit.{section_within, past_section, past_root}

module _ {limit : ℕ} where
  one_in_keys : {l p q : ℕ} {text : Text} → DeepKeys limit l text p → DeepKeys limit l text q → p ≡ q
  one_in_keys (deep.this_key h k) (deep.this_key g w) = ap (λ (k : Key). k.offset) (key_same k w).0
  one_in_keys (deep.this_key h k) (deep.later_key g w s e) = absurd (omega (arith, h, g))
  one_in_keys {l = l} (deep.later_key h k s d) e = one_in_keys {l = l + 1} d (past_key h k s e)

  mutual
    one_in_value : {l p q : ℕ} {text : Text} → DeepValue limit l text p → DeepValue limit l text q → p ≡ q
    one_in_value (deep.array s (deep.this_bracket h)) (deep.array t (deep.this_bracket g)) = (sign_same s t).0
    one_in_value (deep.array s (deep.this_bracket h)) (deep.array t (deep.elements g e)) =
        absurd (omega (arith, h, g))
    one_in_value (deep.array s (deep.elements h d)) (deep.array t (deep.this_bracket g)) =
        absurd (omega (arith, h, g))
    one_in_value {l = l} {q = q} (deep.array s (deep.elements h d)) (deep.array t (deep.elements g e)) =
        one_in_elements {l = l + 1} d (subst (λ (n : Text). DeepElements limit (l + 1) (after_gap is_comment n) q)
        (sym (sign_same s t).2) e)
    one_in_value (deep.array s d) (deep.inline t e) = absurd (word_sign (λ c. c == 91) s refl t refl)
    one_in_value (deep.inline s d) (deep.array t e) = absurd (word_sign (λ c. c == 123) s refl t refl)
    one_in_value (deep.inline s (deep.this_brace h)) (deep.inline t (deep.this_brace g)) = (sign_same s t).0
    one_in_value (deep.inline s (deep.this_brace h)) (deep.inline t (deep.fields g e)) = absurd (omega (arith, h, g))
    one_in_value (deep.inline s (deep.fields h d)) (deep.inline t (deep.this_brace g)) = absurd (omega (arith, h, g))
    one_in_value {l = l} {q = q} (deep.inline s (deep.fields h d)) (deep.inline t (deep.fields g e)) =
        one_in_fields {l = l + 1} d (subst (λ (n : Text). DeepFields limit (l + 1) (after_blanks n) q)
        (sym (sign_same s t).2) e)

    one_in_elements : {l p q : ℕ} {text : Text} → DeepElements limit l text p → DeepElements limit l text q → p ≡ q
    one_in_elements (deep.this_element d) (deep.this_element e) = one_in_value d e
    one_in_elements (deep.this_element d) (deep.later_element w h s e) = absurd (value_within w h d)
    one_in_elements (deep.later_element w h s d) e = one_in_elements d (past_element w h s e)

    one_in_fields : {l p q : ℕ} {text : Text} → DeepFields limit l text p → DeepFields limit l text q → p ≡ q
    one_in_fields (deep.this_field d) (deep.this_field e) = one_in_row d e
    one_in_fields (deep.this_field d) (deep.later_field w h s e) = absurd (row_within w h d)
    one_in_fields (deep.later_field w h s d) e = one_in_fields d (past_field w h s e)

    one_in_row : {l p q : ℕ} {text : Text} → DeepRow limit l text p → DeepRow limit l text q → p ≡ q
    one_in_row (deep.keys d) (deep.keys e) = one_in_keys d e
    one_in_row (deep.keys d) (deep.value ks h s e) = absurd (keys_within ks h (ap (char_at 46) s) d)
    one_in_row (deep.value ks h s d) e = one_in_value d (past_equals ks h s e)

  one_in_rows : {l p q : ℕ} {text : Text} → DeepRows limit l text p → DeepRows limit l text q → p ≡ q
  one_in_rows (deep.this_row d) (deep.this_row e) = one_in_row d e
  one_in_rows {text = text} (deep.this_row d) (deep.after_empty f e) =
      absurd (no_end (line_missed text (row_head limit d)) f)
  one_in_rows (deep.this_row d) (deep.later_row w h f e) = absurd (row_within w h d)
  one_in_rows (deep.after_empty f d) e = one_in_rows d (past_empty_line f e)
  one_in_rows (deep.later_row w h f d) e = one_in_rows d (past_row w h f e)

  one_in_header : {p q : ℕ} {text : Text} → DeepHeader limit text p → DeepHeader limit text q → p ≡ q
  one_in_header {q = q} (deep.table s d) (deep.table t e) =
      one_in_keys d (subst (λ (n : Text). DeepKeys limit 2 (after_blanks n) q) (sym (sign_same s t).2) e)
  one_in_header (deep.table s d) (deep.array_of_tables t u e) =
      absurd (heads_not (keys_head limit d) (ap after_blanks ((sign_same s t).2 ∙ u)) refl)
  one_in_header (deep.array_of_tables s u d) (deep.table t e) =
      absurd (heads_not (keys_head limit e) (ap after_blanks (sym (sign_same s t).2 ∙ u)) refl)
  one_in_header {q = q} (deep.array_of_tables s u d) (deep.array_of_tables t w e) =
      one_in_keys d (subst (λ (n : Text). DeepKeys limit 2 (after_blanks n) q)
      (sym (sign_same (sym (sign_same s t).2 ∙ u) w).2) e)

  one_in_section : {p q : ℕ} {text : Text} → DeepSection limit text p → DeepSection limit text q → p ≡ q
  one_in_section (deep.header d) (deep.header e) = one_in_header d e
  one_in_section (deep.header d) (deep.rows w h f e) = absurd (header_within w h d)
  one_in_section (deep.rows w h f d) e = one_in_rows d (past_header w h f e)

  one_in_sections : {p q : ℕ} {text : Text} → DeepSections limit text p → DeepSections limit text q → p ≡ q
  one_in_sections (deep.this_section d) (deep.this_section e) = one_in_section d e
  one_in_sections (deep.this_section d) (deep.later_section w f rs h e) = absurd (section_within w f rs h d)
  one_in_sections (deep.later_section w f rs h d) e = one_in_sections d (past_section w f rs h e)

  one_in_text : {p q : ℕ} {text : Text} → DeepStop limit text p → DeepStop limit text q → p ≡ q
  one_in_text (deep.root d) (deep.root e) = one_in_rows d e
  one_in_text (deep.root d) (deep.headed rs h e) = absurd (rows_within rs h d)
  one_in_text (deep.headed rs h d) e = one_in_sections d (past_root rs h e)

pub deep_stops_are_one : DeepStopsAreOne
deep_stops_are_one limit text p q d e = one_in_text d e
