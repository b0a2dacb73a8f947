-- A value at a hole, and a left brace directly behind it: another thing has to come there, which is what has to come
-- behind the value.
use Rattle.std.proofs.Common.{◌≡◌, ◌⊎◌, inl, inr, ℕ, false, List, ◌∷◌, refl, sym, subst}
use Rattle.basic_toml_tokens.specs.Text.{Text, is_comment, after_blanks}
use Rattle.basic_toml_grammar.specs.Sections.{Key, Raw}
use Rattle.basic_toml_grammar.specs.Grammar.{IsValue, IsRow, assigned}
use Rattle.basic_toml_grammar.specs.Holes as holes
use Rattle.basic_toml_grammar.specs.Holes.{Hole, HoleInValue, HoleInElements, HoleInFields, HoleInFieldsOn, HoleInRow}
use Rattle.basic_toml_grammar.specs.Holes.{HoleInRows, HoleInSections, HoleInText, fits, behind_value}
use Rattle.basic_toml_grammar.specs.Holes.{behind_in_elements, behind_in_fields, behind_in_fields_on, behind_in_row}
use Rattle.basic_toml_grammar.specs.Holes.{behind_in_rows, behind_in_sections, behind_in_text}
use Rattle.basic_toml_grammar.proofs.Viable.HolesHold.{keys_no_value}
use Rattle.basic_toml_grammar.proofs.Viable.TextsHold.{header_no_value}

-- the value that ends a reading with it
record ValueTo (text rest : Text) (f : Hole → Hole) : Type 0 where
  offset : ℕ
  value : Raw
  is : IsValue is_comment text offset value rest
  last : (b : Hole) → f b ≡ b

record RowTo (text rest : Text) (f : Hole → Hole) : Type 0 where
  keys : List Key
  offset : ℕ
  value : Raw
  is : IsRow is_comment text keys offset value rest
  last : (b : Hole) → f b ≡ b

-- this hole, which no left brace fits
pub record Next (HoleIn : Hole → Type 0) (hole : Hole) : Type 0 where
  pub is : HoleIn hole
  pub misfit : fits hole 123 ≡ false

module _ (p : ℕ) (n : Text) where
  abbrev brace : Text
  brace = (p, 123) ∷ n

  mutual
    value_on : {text at : Text} {q : ℕ} {v : Raw} (d : HoleInValue text Hole.value at) → IsValue is_comment at q v brace
        → ValueTo text brace (λ b. behind_value b d)
        ⊎ ((b : Hole) → Next (λ h. HoleInValue text h brace) (behind_value b d))
    value_on {q = q} {v = v} holes.this_value w = inl (record { offset = q; value = v; is = w; last = λ b. refl })
    value_on (holes.array s d) w =
        let x = elements_on d w in inr (λ b. record { is = holes.array s x.is; misfit = x.misfit })
    value_on (holes.inline s d) w =
        let x = fields_on d w in inr (λ b. record { is = holes.inline s x.is; misfit = x.misfit })

    elements_on : {text at : Text} {q : ℕ} {v : Raw} (d : HoleInElements text Hole.value at)
        → IsValue is_comment at q v brace → Next (λ h. HoleInElements text h brace) (behind_in_elements d)
    elements_on {text = text} (holes.in_element m d) w = go (value_on d w)
      where
        go : ValueTo text brace (λ b. behind_value b d)
            ⊎ ((b : Hole) → Next (λ h. HoleInValue text h brace) (behind_value b d))
            → Next (λ h. HoleInElements text h brace) (behind_value Hole.after_element d)
        go (inl x) = subst (Next (λ h. HoleInElements text h brace)) (sym (x.last Hole.after_element))
            (record { is = holes.after_this x.is; misfit = refl })
        go (inr x) =
            let y = x Hole.after_element in record { is = holes.in_element m y.is; misfit = y.misfit }
    elements_on (holes.later_element v s d) w =
        let x = elements_on d w in record { is = holes.later_element v s x.is; misfit = x.misfit }

    fields_on : {text at : Text} {q : ℕ} {v : Raw} (d : HoleInFields text Hole.value at)
        → IsValue is_comment at q v brace → Next (λ h. HoleInFields text h brace) (behind_in_fields d)
    fields_on (holes.fields m d) w =
        let x = more_fields_on d w in record { is = holes.fields m x.is; misfit = x.misfit }

    more_fields_on : {text at : Text} {q : ℕ} {v : Raw} (d : HoleInFieldsOn text Hole.value at)
        → IsValue is_comment at q v brace → Next (λ h. HoleInFieldsOn text h brace) (behind_in_fields_on d)
    more_fields_on {text = text} (holes.in_row d) w = go (row_on d w)
      where
        go : RowTo text brace (λ b. behind_in_row b d)
            ⊎ ((b : Hole) → Next (λ h. HoleInRow text h brace) (behind_in_row b d))
            → Next (λ h. HoleInFieldsOn text h brace) (behind_in_row Hole.after_field d)
        go (inl x) = subst (Next (λ h. HoleInFieldsOn text h brace)) (sym (x.last Hole.after_field))
            (record { is = holes.after_row x.is; misfit = refl })
        go (inr x) = let y = x Hole.after_field in record { is = holes.in_row y.is; misfit = y.misfit }
    more_fields_on (holes.later_row r s d) w =
        let x = more_fields_on d w in record { is = holes.later_row r s x.is; misfit = x.misfit }

    row_on : {text at : Text} {q : ℕ} {v : Raw} (d : HoleInRow text Hole.value at) → IsValue is_comment at q v brace
        → RowTo text brace (λ b. behind_in_row b d)
        ⊎ ((b : Hole) → Next (λ h. HoleInRow text h brace) (behind_in_row b d))
    row_on (holes.in_keys d) w = absurd (keys_no_value d refl)
    row_on {text = text} (holes.in_value {keys = keys} {mid = mid} {next = next} ks s d) w = go (value_on d w)
      where
        go : ValueTo (after_blanks next) brace (λ b. behind_value b d)
            ⊎ ((b : Hole) → Next (λ h. HoleInValue (after_blanks next) h brace) (behind_value b d))
            → RowTo text brace (λ b. behind_value b d)
            ⊎ ((b : Hole) → Next (λ h. HoleInRow text h brace) (behind_value b d))
        go (inl x) = inl (record {
          keys = keys;
          offset = x.offset;
          value = x.value;
          is = assigned ks s x.is;
          last = x.last;
        })
        go (inr x) = inr (λ b. record { is = holes.in_value ks s (x b).is; misfit = (x b).misfit })

  rows_on : {text at : Text} {q : ℕ} {v : Raw} (d : HoleInRows text Hole.value at) → IsValue is_comment at q v brace
      → Next (λ h. HoleInRows text h brace) (behind_in_rows d)
  rows_on {text = text} (holes.this_row b c m d) w = go (row_on d w)
    where
      go : RowTo (after_blanks text) brace (λ b. behind_in_row b d)
          ⊎ ((b : Hole) → Next (λ h. HoleInRow (after_blanks text) h brace) (behind_in_row b d))
          → Next (λ h. HoleInRows text h brace) (behind_in_row Hole.after_line d)
      go (inl x) = subst (Next (λ h. HoleInRows text h brace)) (sym (x.last Hole.after_line))
          (record { is = holes.after_row x.is; misfit = refl })
      go (inr x) = let y = x Hole.after_line in record { is = holes.this_row b c m y.is; misfit = y.misfit }
  rows_on (holes.after_empty e d) w =
      let x = rows_on d w in record { is = holes.after_empty e x.is; misfit = x.misfit }
  rows_on (holes.later_row r e d) w =
      let x = rows_on d w in record { is = holes.later_row r e x.is; misfit = x.misfit }

  sections_on : {text at : Text} {q : ℕ} {v : Raw} (d : HoleInSections text Hole.value at)
      → IsValue is_comment at q v brace → Next (λ h. HoleInSections text h brace) (behind_in_sections d)
  sections_on (holes.in_header d) w = absurd (header_no_value d refl)
  sections_on (holes.in_rows k e d) w =
      let x = rows_on d w in record { is = holes.in_rows k e x.is; misfit = x.misfit }
  sections_on (holes.later_section k e rs d) w =
      let x = sections_on d w in record { is = holes.later_section k e rs x.is; misfit = x.misfit }

  pub value_followed : {text at : Text} {q : ℕ} {v : Raw} (d : HoleInText text Hole.value at)
      → IsValue is_comment at q v ((p, 123) ∷ n) → Next (λ h. HoleInText text h ((p, 123) ∷ n)) (behind_in_text d)
  value_followed (holes.root d) w = let x = rows_on d w in record { is = holes.root x.is; misfit = x.misfit }
  value_followed (holes.headed rs d) w =
      let x = sections_on d w in record { is = holes.headed rs x.is; misfit = x.misfit }
