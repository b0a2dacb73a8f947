-- A written value fits exactly where no unsupported shape occurs.
use Rattle.std.proofs.Common.{◌≡◌, ℕ, suc, ◌+◌, ◌≤◌, ◌<◌, List, refl, sym, ◌∙◌, Bool, true, false, cond, arith}
use Rattle.std.specs.Prelude.{◌||◌, ◌&&◌, bytes_eq}
use Rattle.std.proofs.lemmas.Bool.{or_parts, or_from, leb-false, lt-leb, ltb-false, le-ltb, true≢false, and_left}
use Rattle.basic_toml_layout.specs.Written.{Scalar, integer, boolean, float, text, other_text, bytes, refused, Written}
use Rattle.basic_toml_layout.specs.Written.{scalar, absent, array, table, Elements, no_elements, element, Entries}
use Rattle.basic_toml_layout.specs.Written.{no_entries, entry, is_absent, is_table}
use Rattle.basic_toml_layout.specs.Layout.{form}
use Rattle.basic_toml_open_keys.specs.Keys.{PresentKeys, no_keys, with_key}
use Rattle.basic_toml_emit.specs.Depth.{scalar_depth, depth, elements_depth, entries_depth}
use Rattle.basic_toml_write.specs.Shapes.{holds_table, holds_other, holds_absent, is_array_with_table}
use Rattle.basic_toml_write.specs.Shapes.{holds_array_with_table, is_late, then_after, has_late_row, has_key}
use Rattle.basic_toml_write.specs.Shapes.{repeats_key, is_bad_array, has_bad, element_has_bad, entry_has_bad}
use Rattle.basic_toml_write.specs.Shapes.{is_unsupported}
use Rattle.basic_toml_write.proofs.ValuesThatFit.{scalar_too_deep, FitsValue, FitsOthers, FitsTables, FitsArray}
use Rattle.basic_toml_write.proofs.ValuesThatFit.{FitsEntries, Fits}

-- a present entry has a key of these
abbrev meets_key : PresentKeys → Entries → Bool
meets_key seen no_entries = false
meets_key seen (entry k absent es) = meets_key seen es
meets_key seen (entry k v es) = seen k || meets_key seen es

regroup : (a b c d : Bool) → cond a true b || (c || d) ≡ (a || c) || (b || d)
regroup true b c d = refl
regroup false true true d = refl
regroup false true false d = refl
regroup false false c d = refl

meets_key-with_key : (k : List ℕ) (seen : PresentKeys) (es : Entries)
    → meets_key (with_key k seen) es ≡ has_key k es || meets_key seen es
meets_key-with_key k seen no_entries = refl
meets_key-with_key k seen (entry l absent es) = meets_key-with_key k seen es
meets_key-with_key k seen (entry l (scalar x) es) =
    rw (meets_key-with_key k seen es) (regroup (bytes_eq k l) (seen l) (has_key k es) (meets_key seen es))
meets_key-with_key k seen (entry l (array x) es) =
    rw (meets_key-with_key k seen es) (regroup (bytes_eq k l) (seen l) (has_key k es) (meets_key seen es))
meets_key-with_key k seen (entry l (table x) es) =
    rw (meets_key-with_key k seen es) (regroup (bytes_eq k l) (seen l) (has_key k es) (meets_key seen es))

meets_key-none : (es : Entries) → meets_key no_keys es ≡ false
meets_key-none no_entries = refl
meets_key-none (entry k absent es) = meets_key-none es
meets_key-none (entry k (scalar x) es) = meets_key-none es
meets_key-none (entry k (array x) es) = meets_key-none es
meets_key-none (entry k (table x) es) = meets_key-none es

meets_next : (k : List ℕ) (seen : PresentKeys) (es : Entries) → has_key k es ≡ false → meets_key seen es ≡ false
    → meets_key (with_key k seen) es ≡ false
meets_next k seen es h m = meets_key-with_key k seen es ∙ or_from _ _ h m

met_before : (k : List ℕ) (seen : PresentKeys) (es : Entries) → meets_key (with_key k seen) es ≡ false
    → (has_key k es ≡ false) × (meets_key seen es ≡ false)
met_before k seen es m = or_parts _ _ (sym (meets_key-with_key k seen es) ∙ m)

-- an array that begins with a value holds no table
no_table : (b : Bool) → b && true ≡ false → b ≡ false
no_table false e = refl
no_table true e = absurd (true≢false e)

module _ (limit : ℕ) where
  scalar_fits : (l : Scalar) (n : ℕ) → n + scalar_depth l ≤ limit → scalar_too_deep limit l n ≡ false
  scalar_fits (bytes ns) n le = lt-leb limit n (omega arith)
  scalar_fits (integer z) n le = refl
  scalar_fits (boolean b) n le = refl
  scalar_fits (float t) n le = refl
  scalar_fits (text t) n le = refl
  scalar_fits (other_text t) n le = refl
  scalar_fits refused n le = refl

  fits_scalar : (l : Scalar) (n : ℕ) → n ≤ limit → scalar_too_deep limit l n ≡ false → n + scalar_depth l ≤ limit
  fits_scalar (bytes ns) n le e = let p : n < limit = leb-false limit n e in omega arith
  fits_scalar (integer z) n le e = omega arith
  fits_scalar (boolean b) n le e = omega arith
  fits_scalar (float t) n le e = omega arith
  fits_scalar (text t) n le e = omega arith
  fits_scalar (other_text t) n le e = omega arith
  fits_scalar refused n le e = omega arith

  mutual
    fits_value : (v : Written) (n : ℕ) → is_table v ≡ false → is_absent v ≡ false → is_array_with_table v ≡ false
        → has_bad v ≡ false → n + depth v ≤ limit → FitsValue limit n v
    fits_value (scalar l) n t a s b d = (b, scalar_fits l n d)
    fits_value absent n t a s b d = absurd (true≢false a)
    fits_value (array es) n t a s b d =
        let x = or_parts _ _ b in
        let y = or_parts _ _ x.0 in
        let z = or_parts _ _ y.1 in
        (lt-leb limit n (omega arith), fits_others es (suc n) s z.1 z.0 x.1 (omega arith))
    fits_value (table es) n t a s b d = absurd (true≢false t)

    fits_others : (es : Elements) (n : ℕ) → holds_table es ≡ false → holds_absent es ≡ false
        → holds_array_with_table es ≡ false → element_has_bad es ≡ false → n + elements_depth es ≤ limit
        → FitsOthers limit n es
    fits_others no_elements n t a s b d = tt
    fits_others (element v es) n t a s b d =
        let t' = or_parts _ _ t in
        let a' = or_parts _ _ a in
        let s' = or_parts _ _ s in
        let b' = or_parts _ _ b in
        (fits_value v n t'.0 a'.0 s'.0 b'.0 (omega arith), fits_others es n t'.1 a'.1 s'.1 b'.1 (omega arith))

    fits_tables : (es : Elements) (n : ℕ) → holds_other es ≡ false → holds_absent es ≡ false
        → element_has_bad es ≡ false → n + elements_depth es ≤ limit → FitsTables limit n es
    fits_tables no_elements n o a b d = tt
    fits_tables (element (scalar l) es) n o a b d = absurd (true≢false o)
    fits_tables (element absent es) n o a b d = absurd (true≢false a)
    fits_tables (element (array x) es) n o a b d = absurd (true≢false o)
    fits_tables (element (table rs) es) n o a b d =
        let b' = or_parts _ _ b in
        let c = or_parts _ _ b'.0 in
        let e = or_parts _ _ c.0 in (
          lt-leb limit n (omega arith),
          fits_entries rs (suc n) false no_keys e.0 e.1 (meets_key-none rs) c.1 (omega arith),
          fits_tables es n o a b'.1 (omega arith),
        )

    fits_array : (es : Elements) (n : ℕ) (late : Bool) → is_late late (form (array es)) ≡ false
        → is_bad_array es ≡ false → element_has_bad es ≡ false → n + elements_depth es ≤ limit
        → FitsArray limit n late es
    fits_array no_elements n late l b e d = l
    fits_array (element absent es) n late l b e d = absurd (true≢false (or_parts _ _ (or_parts _ _ b).1).1)
    fits_array (element (table rs) es) n late l b e d =
        let b' = or_parts _ _ b in
        let e' = or_parts _ _ e in
        let c = or_parts _ _ e'.0 in
        let g = or_parts _ _ c.0 in (
          lt-leb limit n (omega arith),
          fits_entries rs (suc n) false no_keys g.0 g.1 (meets_key-none rs) c.1 (omega arith),
          fits_tables es n b'.0 (or_parts _ _ b'.1).1 e'.1 (omega arith),
        )
    fits_array (element (scalar x) es) n late l b e d =
        let b' = or_parts _ _ b in
        let c = or_parts _ _ b'.1 in
        let e' = or_parts _ _ e in (
          l,
          fits_value (scalar x) n refl refl refl e'.0 (omega arith),
          fits_others es n (no_table (holds_table es) b'.0) c.1 c.0 e'.1 (omega arith),
        )
    fits_array (element (array x) es) n late l b e d =
        let b' = or_parts _ _ b in
        let c = or_parts _ _ b'.1 in
        let c' = or_parts _ _ c.0 in
        let e' = or_parts _ _ e in (
          l,
          fits_value (array x) n refl refl c'.0 e'.0 (omega arith),
          fits_others es n (no_table (holds_table es) b'.0) c.1 c'.1 e'.1 (omega arith),
        )

    fits_entries : (es : Entries) (n : ℕ) (late : Bool) (seen : PresentKeys) → has_late_row late es ≡ false
        → repeats_key es ≡ false → meets_key seen es ≡ false → entry_has_bad es ≡ false → n + entries_depth es ≤ limit
        → FitsEntries limit n late seen es
    fits_entries no_entries n late seen l r m b d = tt
    fits_entries (entry k absent es) n late seen l r m b d = fits_entries es n late seen l r m b (omega arith)
    fits_entries (entry k (scalar x) es) n late seen l r m b d =
        let l' = or_parts _ _ l in
        let r' = or_parts _ _ r in
        let m' = or_parts _ _ m in
        let b' = or_parts _ _ b in (
          (b'.0, m'.0, l'.0, scalar_fits x n (omega arith)),
          fits_entries es n late (with_key k seen) l'.1 r'.1 (meets_next k seen es r'.0 m'.1) b'.1 (omega arith),
        )
    fits_entries (entry k (array x) es) n late seen l r m b d =
        let l' = or_parts _ _ l in
        let r' = or_parts _ _ r in
        let m' = or_parts _ _ m in
        let b' = or_parts _ _ b in
        let c = or_parts _ _ b'.0 in (
          (m'.0, lt-leb limit n (omega arith), fits_array x (suc n) late l'.0 c.0 c.1 (omega arith)),
          fits_entries es n (then_after late (form (array x))) (with_key k seen) l'.1 r'.1
              (meets_next k seen es r'.0 m'.1) b'.1 (omega arith),
        )
    fits_entries (entry k (table x) es) n late seen l r m b d =
        let r' = or_parts _ _ r in
        let m' = or_parts _ _ m in
        let b' = or_parts _ _ b in
        let c = or_parts _ _ b'.0 in
        let g = or_parts _ _ c.0 in (
          (
            m'.0,
            lt-leb limit n (omega arith),
            fits_entries x (suc n) false no_keys g.0 g.1 (meets_key-none x) c.1 (omega arith),
          ),
          fits_entries es n true (with_key k seen) l r'.1 (meets_next k seen es r'.0 m'.1) b'.1 (omega arith),
        )

  pub fits : (w : Written) → is_unsupported limit w ≡ false → Fits limit w
  fits (scalar l) e = absurd (true≢false e)
  fits absent e = absurd (true≢false e)
  fits (array es) e = absurd (true≢false e)
  fits (table es) e =
      let a = or_parts _ _ e in
      let b = or_parts _ _ a.0 in
      let c = or_parts _ _ b.0 in
      let d : suc (entries_depth es) ≤ limit = ltb-false limit (suc (entries_depth es)) a.1 in
      (lt-leb limit 0 (omega arith), fits_entries es 1 false no_keys c.0 c.1 (meets_key-none es) b.1 (omega arith))

  mutual
    shaped_value : (v : Written) (n : ℕ) → n ≤ limit → FitsValue limit n v → (is_table v ≡ false)
        × (is_absent v ≡ false) × (is_array_with_table v ≡ false) × (has_bad v ≡ false) × (n + depth v ≤ limit)
    shaped_value (scalar l) n le f = (refl, refl, refl, f.0, fits_scalar l n le f.1)
    shaped_value absent n le f = absurd f
    shaped_value (array es) n le f =
        let p : n < limit = leb-false limit n f.0 in
        let r = shaped_others es (suc n) p f.1 in
        (refl, refl, r.0, or_from _ _ (or_from _ _ (and_left _ _ r.0) (or_from _ _ r.2 r.1)) r.3, omega (arith, r.4))
    shaped_value (table es) n le f = absurd f

    shaped_others : (es : Elements) (n : ℕ) → n ≤ limit → FitsOthers limit n es → (holds_table es ≡ false)
        × (holds_absent es ≡ false) × (holds_array_with_table es ≡ false) × (element_has_bad es ≡ false)
        × (n + elements_depth es ≤ limit)
    shaped_others no_elements n le f = (refl, refl, refl, refl, omega arith)
    shaped_others (element v es) n le f =
        let a = shaped_value v n le f.0 in
        let r = shaped_others es n le f.1 in
        (or_from _ _ a.0 r.0, or_from _ _ a.1 r.1, or_from _ _ a.2 r.2, or_from _ _ a.3 r.3, omega (arith, a.4, r.4))

    shaped_tables : (es : Elements) (n : ℕ) → n ≤ limit → FitsTables limit n es → (holds_other es ≡ false)
        × (holds_absent es ≡ false) × (holds_array_with_table es ≡ false) × (element_has_bad es ≡ false)
        × (n + elements_depth es ≤ limit)
    shaped_tables no_elements n le f = (refl, refl, refl, refl, omega arith)
    shaped_tables (element (scalar l) es) n le f = absurd f
    shaped_tables (element absent es) n le f = absurd f
    shaped_tables (element (array x) es) n le f = absurd f
    shaped_tables (element (table rs) es) n le f =
        let p : n < limit = leb-false limit n f.0 in
        let a = shaped_entries rs (suc n) false no_keys p f.1 in
        let r = shaped_tables es n le f.2 in
        (r.0, r.1, r.2, or_from _ _ (or_from _ _ (or_from _ _ a.0 a.1) a.2) r.3, omega (arith, a.3, r.4))

    shaped_array : (es : Elements) (n : ℕ) (late : Bool) → n ≤ limit → FitsArray limit n late es
        → (is_late late (form (array es)) ≡ false) × (is_bad_array es ≡ false) × (element_has_bad es ≡ false)
        × (n + elements_depth es ≤ limit)
    shaped_array no_elements n late le f = (f, refl, refl, omega arith)
    shaped_array (element absent es) n late le f = absurd f.1
    shaped_array (element (table rs) es) n late le f =
        let p : n < limit = leb-false limit n f.0 in
        let a = shaped_entries rs (suc n) false no_keys p f.1 in
        let r = shaped_tables es n le f.2 in (
          refl,
          or_from _ _ r.0 (or_from _ _ r.2 r.1),
          or_from _ _ (or_from _ _ (or_from _ _ a.0 a.1) a.2) r.3,
          omega (arith, a.3, r.4),
        )
    shaped_array (element (scalar x) es) n late le f =
        let a = shaped_value (scalar x) n le f.1 in
        let r = shaped_others es n le f.2 in
        (f.0, or_from _ _ (and_left _ _ r.0) (or_from _ _ r.2 r.1), or_from _ _ a.3 r.3, omega (arith, a.4, r.4))
    shaped_array (element (array x) es) n late le f =
        let a = shaped_value (array x) n le f.1 in
        let r = shaped_others es n le f.2 in (
          f.0,
          or_from _ _ (and_left _ _ r.0) (or_from _ _ (or_from _ _ a.2 r.2) r.1),
          or_from _ _ a.3 r.3,
          omega (arith, a.4, r.4),
        )

    shaped_entries : (es : Entries) (n : ℕ) (late : Bool) (seen : PresentKeys) → n ≤ limit
        → FitsEntries limit n late seen es → (has_late_row late es ≡ false) × (repeats_key es ≡ false)
        × (entry_has_bad es ≡ false) × (n + entries_depth es ≤ limit) × (meets_key seen es ≡ false)
    shaped_entries no_entries n late seen le f = (refl, refl, refl, omega arith, refl)
    shaped_entries (entry k absent es) n late seen le f = let r = shaped_entries es n late seen le f in
        (r.0, r.1, r.2, omega (arith, r.3), r.4)
    shaped_entries (entry k (scalar x) es) n late seen le f =
        let r = shaped_entries es n late (with_key k seen) le f.1 in
        let m = met_before k seen es r.4 in (
          or_from _ _ f.0.2 r.0,
          or_from _ _ m.0 r.1,
          or_from _ _ f.0.0 r.2,
          omega (arith, r.3, fits_scalar x n le f.0.3),
          or_from _ _ f.0.1 m.1,
        )
    shaped_entries (entry k (array x) es) n late seen le f =
        let p : n < limit = leb-false limit n f.0.1 in
        let a = shaped_array x (suc n) late p f.0.2 in
        let r = shaped_entries es n (then_after late (form (array x))) (with_key k seen) le f.1 in
        let m = met_before k seen es r.4 in (
          or_from _ _ a.0 r.0,
          or_from _ _ m.0 r.1,
          or_from _ _ (or_from _ _ a.1 a.2) r.2,
          omega (arith, r.3, a.3),
          or_from _ _ f.0.0 m.1,
        )
    shaped_entries (entry k (table x) es) n late seen le f =
        let p : n < limit = leb-false limit n f.0.1 in
        let a = shaped_entries x (suc n) false no_keys p f.0.2 in
        let r = shaped_entries es n true (with_key k seen) le f.1 in
        let m = met_before k seen es r.4 in (
          r.0,
          or_from _ _ m.0 r.1,
          or_from _ _ (or_from _ _ (or_from _ _ a.0 a.1) a.2) r.2,
          omega (arith, r.3, a.3),
          or_from _ _ f.0.0 m.1,
        )

  pub shaped : (w : Written) → Fits limit w → is_unsupported limit w ≡ false
  shaped (scalar l) f = absurd f
  shaped absent f = absurd f
  shaped (array es) f = absurd f
  shaped (table es) f =
      let p : 0 < limit = leb-false limit 0 f.0 in
      let a = shaped_entries es 1 false no_keys p f.1 in
      or_from _ _ (or_from _ _ (or_from _ _ a.0 a.1) a.2) (le-ltb limit (suc (entries_depth es)) (omega (arith, a.3)))
