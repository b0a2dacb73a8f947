-- Rows that go on from keys or from a value, one row after another.
use Rattle.std.proofs.Common.{◌≡◌, ℕ, ◌+◌, ◌<◌, ◌==◌, Bool, List, [], ◌∷◌, ◌++◌, Option}
use Rattle.std.proofs.Common.{ap, sym, ◌∙◌, drop, get_or, length, map, take}
use Rattle.std.proofs.lemmas.Bool.{eq-eqb, ne_eqb}
use Rattle.std.proofs.lemmas.List.{map-append}
use Rattle.std.specs.Option.{option_or}
use Rattle.std.specs.Prelude.{if◌then◌else◌}
use Rattle.basic_toml_grammar.specs.Sections.{Key, KeyTexts, texts, Rows}
use Rattle.basic_toml_read.specs.declared.section.Key as code
use Rattle.basic_toml_read.specs.declared.section.Row.{Row, out-Row}
use Rattle.basic_toml_read.specs.KeyText.{key_text_bytes}
use Rattle.basic_toml_read.specs.SectionView.{Lined, header_texts, key_of, lined_of, raw_of, rows_from}
use Rattle.basic_toml_read.proofs.NextRow.{lined_is, next_row}
use Rattle.basic_toml_origin.specs.Crossing.{crossing_by, crossing_in, first_going_on, key_going_on}

-- the first row goes on; else one of the others may
pub goes_first : (keys : KeyTexts) (left own : List code.Key) (rows : List Row) (i : ℕ) (r : Row) (found : Option ℕ)
    → i < length rows → r ≡ get_or rows i r → own ≡ take (out-Row r).parents left
    → ((last : Key) → found ≡ key_going_on keys (map key_of own ++ last ∷ []))
    → first_going_on keys (rows_from (map key_of left) (map lined_of (drop i rows)))
    ≡ option_or found (first_going_on keys (rows_from (map key_of (drop (out-Row r).parents left))
    (map lined_of (drop (i + 1) rows))))
goes_first keys left own rows i r found within is owned led =
    rw (led (lined_of r).key, owned) (ap (λ rs. first_going_on keys rs) (next_row left rows i r within is))

-- the row at a number, and its own parents
module _ (o : ℕ) (left own : List code.Key) (rows : List Row) (i : ℕ) (r : Row) (within : i < length rows)
    (is : r ≡ get_or rows i r) (owned : own ≡ take (out-Row r).parents left) where
  abbrev keys : KeyTexts
  keys = header_texts own ++ key_text_bytes (out-Row r).key ∷ []

  abbrev behind : Rows
  behind = rows_from (map key_of (drop (out-Row r).parents left)) (map lined_of (drop (i + 1) rows))

  keys_are : texts (map key_of own ++ (lined_of r).key ∷ []) ≡ keys
  keys_are =
      map-append (λ k. k.text) (map key_of own) ((lined_of r).key ∷ [])
      ∙ ap (λ (l : Lined). header_texts own ++ l.key.text ∷ []) (lined_is r)

  first : crossing_by o (rows_from (map key_of left) (map lined_of (drop i rows)))
      ≡ (if (out-Row r).start == o then first_going_on keys behind
      else option_or (crossing_in o (raw_of (out-Row r).value)) (crossing_by o behind))
  first =
      ap (crossing_by o) (next_row left rows i r within is)
      ∙ ap (λ (ks : List code.Key). if (lined_of r).start == o
      then first_going_on (texts (map key_of ks ++ (lined_of r).key ∷ [])) behind
      else option_or (crossing_in o (lined_of r).value) (crossing_by o behind)) (sym owned)
      ∙ ap (λ (ks : KeyTexts). if (lined_of r).start == o then first_going_on ks behind
      else option_or (crossing_in o (lined_of r).value) (crossing_by o behind)) keys_are
      ∙ ap (λ (l : Lined). if l.start == o then first_going_on keys behind
      else option_or (crossing_in o l.value) (crossing_by o behind)) (lined_is r)

  -- its value begins at the offset
  pub value_met : (last : List ℕ) (parents : List code.Key) (rest : List Row) → last ≡ key_text_bytes (out-Row r).key
      → drop (out-Row r).parents left ≡ parents → rest ≡ drop (i + 1) rows → (out-Row r).start ≡ o
      → crossing_by o (rows_from (map key_of left) (map lined_of (drop i rows)))
      ≡ first_going_on (header_texts own ++ last ∷ []) (rows_from (map key_of parents) (map lined_of rest))
  value_met last parents rest named after others here =
      first
      ∙ ap (λ (b : Bool). if b then first_going_on keys behind
      else option_or (crossing_in o (raw_of (out-Row r).value)) (crossing_by o behind))
      (eq-eqb (out-Row r).start o here)
      ∙ ap (λ t. first_going_on (header_texts own ++ t ∷ []) behind) (sym named)
      ∙ ap (λ (ks : List code.Key). first_going_on (header_texts own ++ last ∷ [])
      (rows_from (map key_of ks) (map lined_of (drop (i + 1) rows)))) after
      ∙ ap (λ (rs : List Row). first_going_on (header_texts own ++ last ∷ [])
      (rows_from (map key_of parents) (map lined_of rs))) (sym others)

  -- or elsewhere
  pub value_passed : (found : Option ℕ) → ((out-Row r).start ≡ o → ⊥)
      → found ≡ crossing_in o (raw_of (out-Row r).value)
      → crossing_by o (rows_from (map key_of left) (map lined_of (drop i rows))) ≡ option_or found (crossing_by o behind)
  value_passed found off led =
      first
      ∙ ap (λ (b : Bool). if b then first_going_on keys behind
      else option_or (crossing_in o (raw_of (out-Row r).value)) (crossing_by o behind))
      (ne_eqb (out-Row r).start o off)
      ∙ ap (λ f. option_or f (crossing_by o behind)) (sym led)
