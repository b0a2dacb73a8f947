-- Names in a text that is cut after those that are kept.
use Rattle.std.proofs.Common.{◌≡◌, ℕ, suc, ◌-◌, ◌<◌, ◌≤◌, List, [], ◌∷◌, ◌++◌, length, get_or, take, drop, map}
use Rattle.std.proofs.Common.{refl, sym, ◌∙◌, ap, subst, arith, unwrap_or, inl, inr, length-append}
use Rattle.std.proofs.Common.{slice_index_or, Bool, true, false, append-nil}
use Rattle.std.specs.Prelude.{if◌then◌else◌}
use Rattle.std.specs.List.{All}
use Rattle.std.specs.Str.{IsUtf8, IsCharBoundary}
use Rattle.std.proofs.lemmas.List.{get_or-take, get_or_append_left, take-append-le, take-take, length-take-le, take-map}
use Rattle.std.proofs.lemmas.List.Elements.{All-take}
use Rattle.std.proofs.lemmas.Slice.{between_is}
use Rattle.std.proofs.lemmas.Str.{IsCharBoundary-at_seam, IsUtf8-nil}
use Rattle.std.proofs.lemmas.Bool.{cases_eq}
use Rattle.basic_toml_layout.specs.Texts.{is_bare_key}
use Rattle.basic_toml_open_keys.specs.Names.{name_at, IsPlace, last_after, last_name}
use Rattle.basic_toml_open_keys.specs.declared.names.Place.{Place}

module _ (text more : List ℕ) (held : ℕ) (within : held ≤ length text) where
  abbrev cut_text : List ℕ
  cut_text = take held text ++ more

  length-cut : length (take held text) ≡ held
  length-cut = length-take-le held text within

  get_or-cut : (i : ℕ) → i < held → get_or cut_text i 0 ≡ get_or text i 0
  get_or-cut i lt = get_or_append_left (take held text) more 0 i (omega (arith, length-cut)) ∙
      get_or-take held text i 0 lt

  pub boundary_kept : (i : ℕ) → i ≤ held → IsUtf8 more → IsCharBoundary text i → IsCharBoundary cut_text i
  boundary_kept i le u b = elim (cases_eq i held) [
    | inl same ↦ subst (λ z. IsCharBoundary cut_text z) (length-cut ∙ sym same)
        (IsCharBoundary-at_seam cut_text (take held text) more refl u)
    | inr other ↦ (
      omega (arith, length-cut, length-append (take held text) more),
      λ lt ge. subst (λ z. 192 ≤ z) (sym (get_or-cut i (omega arith)))
          (b.1 (omega arith) (subst (λ z. 128 ≤ z) (get_or-cut i (omega arith)) ge)),
    )
  ]

  pub name_kept : (p : Place) → IsPlace text held p → name_at cut_text p ≡ name_at text p
  name_kept p fits =
      between_is cut_text p.start p.end
      ∙ (ap (drop p.start) (take-append-le p.end (take held text) more (omega (arith, length-cut)) ∙
      take-take p.end held text (omega arith))
      ∙ sym (between_is text p.start p.end))

  pub place_kept : (p : Place) → IsUtf8 more → IsPlace text held p → IsPlace cut_text held p
  place_kept p u fits = (
    fits.0,
    fits.1,
    boundary_kept p.start (omega arith) u fits.2,
    boundary_kept p.end (omega arith) u fits.3,
    fits.4 ∙ sym (ap is_bare_key (name_kept p fits)),
  )

  pub places_kept : (ps : List Place) → IsUtf8 more → All (IsPlace text held) ps → All (IsPlace cut_text held) ps
  places_kept ps u fits = λ k d lt. place_kept (slice_index_or ps k d) u (fits k d lt)

  pub names_kept : (ps : List Place) → All (IsPlace text held) ps → map (name_at cut_text) ps ≡ map (name_at text) ps
  names_kept [] fits = refl
  names_kept (p ∷ ps) fits = λ i. name_kept p (fits 0 p (omega arith)) i
      ∷ names_kept ps (λ k d lt. fits (suc k) d (omega arith)) i

-- what of a text was pushed
pub pushed_is : (b : Bool) (t t' xs ys : List ℕ) → t ≡ xs → t' ≡ (if b then t ++ ys else t) → t' ≡ xs
    ++ (if b then ys else [])
pushed_is true t t' xs ys p q = rw (q, p) refl
pushed_is false t t' xs ys p q = rw (q, p) (sym (append-nil xs))

pub pushed_utf8 : (b : Bool) (ys : List ℕ) → IsUtf8 ys → IsUtf8 (if b then ys else [])
pushed_utf8 true ys u = u
pushed_utf8 false ys u = IsUtf8-nil

last_is : (k : List ℕ) (ks : List (List ℕ)) → get_or (k ∷ ks) (length ks) [] ≡ last_after k ks
last_is k [] = refl
last_is k (l ∷ ks) = last_is l ks

pub last_name_is : (ks : List (List ℕ)) → 0 < length ks → get_or ks (length ks - 1) [] ≡ unwrap_or (last_name ks) []
last_name_is [] lt = absurd (omega arith)
last_name_is (k ∷ ks) lt = ap (λ z. get_or (k ∷ ks) z []) (omega arith) ∙ last_is k ks

-- the first of the names
pub fewer_names : (text : List ℕ) (ps qs : List Place) (count : ℕ) → qs ≡ take count ps
    → map (name_at text) qs ≡ take count (map (name_at text) ps)
fewer_names text ps qs count is = ap (map (name_at text)) is ∙ sym (take-map (name_at text) count ps)

pub fewer_places : (text : List ℕ) (held : ℕ) (ps qs : List Place) (count : ℕ) → qs ≡ take count ps
    → All (IsPlace text held) ps → All (IsPlace text held) qs
fewer_places text held ps qs count is fits =
    subst (λ l. All (IsPlace text held) l) (sym is) (All-take (IsPlace text held) count ps fits)
