-- Where no level passes a limit, no key and no bracket stands above it.
use Rattle.std.proofs.Common.{◌≡◌, ℕ, ◌+◌, ◌-◌, ◌≤◌, List, [], ◌∷◌, ◌++◌, cond, length, nat_lt, refl, ap, ◌∙◌, arith}
use Rattle.std.proofs.lemmas.Bool.{le-ltb}
use Rattle.basic_toml_grammar.specs.Sections.{Key, Raw, Elements, no_elements, element, Rows, no_rows, row, Section}
use Rattle.basic_toml_grammar.specs.Levels.{value_level, elements_level, rows_level, section_level, deep_keys, deep_in}
use Rattle.basic_toml_grammar.specs.Levels.{deep_among, deep_rows}

pub no_deep_keys : (limit l : ℕ) (ks : List Key) → l + length ks - 1 ≤ limit → deep_keys limit l ks ≡ []
no_deep_keys limit l [] h = refl
no_deep_keys limit l (k ∷ ks) h =
    ap (λ b. cond b (k.offset ∷ deep_keys limit (l + 1) ks) (deep_keys limit (l + 1) ks))
    (le-ltb limit l (omega arith)) ∙ no_deep_keys limit (l + 1) ks (omega arith)

no_bracket : (limit l at : ℕ) → l ≤ limit → cond (nat_lt limit l) (at ∷ []) [] ≡ []
no_bracket limit l at h = ap (λ b. cond b (at ∷ []) []) (le-ltb limit l h)

mutual
  pub no_deep_value : (limit l at : ℕ) (v : Raw) → value_level l v ≤ limit → deep_in limit l at v ≡ []
  no_deep_value limit l at (Raw.array es) h =
      ap (λ (xs : List ℕ). xs ++ deep_among limit (l + 1) es) (no_bracket limit (l + 1) at (omega arith)) ∙
      no_deep_elements limit (l + 1) es (omega arith)
  no_deep_value limit l at (Raw.inline rs) h =
      ap (λ (xs : List ℕ). xs ++ deep_rows limit (l + 1) rs) (no_bracket limit (l + 1) at (omega arith)) ∙
      no_deep_rows limit (l + 1) rs (omega arith)
  no_deep_value limit l at (Raw.integer z) h = refl
  no_deep_value limit l at (Raw.float t) h = refl
  no_deep_value limit l at (Raw.boolean b) h = refl
  no_deep_value limit l at (Raw.string t _) h = refl

  no_deep_elements : (limit l : ℕ) (es : Elements) → elements_level l es ≤ limit → deep_among limit l es ≡ []
  no_deep_elements limit l no_elements h = refl
  no_deep_elements limit l (element at v es) h =
      ap (λ (xs : List ℕ). xs ++ deep_among limit l es) (no_deep_value limit l at v (omega arith)) ∙
      no_deep_elements limit l es (omega arith)

  pub no_deep_rows : (limit l : ℕ) (rs : Rows) → rows_level l rs ≤ limit → deep_rows limit l rs ≡ []
  no_deep_rows limit l no_rows h = refl
  no_deep_rows limit l (row ks at v rs) h =
      ap (λ (xs : List ℕ). (xs ++ deep_in limit (l + length ks - 1) at v) ++ deep_rows limit l rs)
      (no_deep_keys limit l ks (omega arith)) ∙
      ap (λ (xs : List ℕ). xs ++ deep_rows limit l rs) (no_deep_value limit (l + length ks - 1) at v (omega arith)) ∙
      no_deep_rows limit l rs (omega arith)

pub no_deep_row : (limit l : ℕ) (ks : List Key) (at : ℕ) (v : Raw) → rows_level l (row ks at v no_rows) ≤ limit
    → deep_keys limit l ks ++ deep_in limit (l + length ks - 1) at v ≡ []
no_deep_row limit l ks at v h =
    ap (λ (xs : List ℕ). xs ++ deep_in limit (l + length ks - 1) at v) (no_deep_keys limit l ks (omega arith)) ∙
    no_deep_value limit (l + length ks - 1) at v (omega arith)

pub no_deep_section : (limit : ℕ) (s : Section) → section_level s ≤ limit
    → deep_keys limit 2 s.header ++ deep_rows limit (length s.header + 1) s.rows ≡ []
no_deep_section limit s h =
    ap (λ (xs : List ℕ). xs ++ deep_rows limit (length s.header + 1) s.rows)
    (no_deep_keys limit 2 s.header (omega arith)) ∙ no_deep_rows limit (length s.header + 1) s.rows (omega arith)
