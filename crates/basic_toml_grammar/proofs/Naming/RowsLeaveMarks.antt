-- A row that goes on leaves its marks, and no others.
use Rattle.std.proofs.Common.{◌≡◌, Bool, true, false, List, [], ◌∷◌, ◌++◌, Option, refl}
use Rattle.std.proofs.Common.{ap, ◌∙◌, subst, inl, inr, append_assoc}
use Rattle.std.specs.Prelude.{◌⊎◌, if◌then◌else◌}
use Rattle.basic_toml_value.specs.Data.{Data}
use Rattle.basic_toml_grammar.specs.Sections.{Key, KeyTexts, texts}
use Rattle.basic_toml_grammar.specs.Steps.{key, Path}
use Rattle.basic_toml_grammar.specs.Marks.{MarkKind, dotted, valued, Mark, mark}
use Rattle.basic_toml_grammar.specs.Standing.{Standing, fits, standing_at}
use Rattle.basic_toml_grammar.specs.NamedClash.{last_key}
use Rattle.basic_toml_grammar.specs.Stops.{Stop, at_row, last_stop, Outcome, goes_on, stops, and_on, try_mark, try_row}
use Rattle.basic_toml_grammar.proofs.AmongElements.{Among, first, next}
use Rattle.basic_toml_grammar.proofs.Clash.WhatSectionsSay.{KeysSay, value_here, dots_here, deeper}
use Rattle.basic_toml_grammar.proofs.Clash.MarksFit.{Tells, tells_more}
use Rattle.basic_toml_grammar.proofs.Clash.PathsAgree.{append_none}

-- what stands after a row
pub record RowRan (p : Path) (keys : List Key) (v : Data) (st now : List Mark) : Type 0 where
  pub tells : Tells now
  pub kept : {m : Mark} → Among m st → Among m now
  pub made : {q : Path} {k : MarkKind} → Among (mark q k) now
      → Among (mark q k) st ⊎ ((r : Path) × (q ≡ p ++ r) × KeysSay v (texts keys) r k)

gone_on : (p : Path) (k : MarkKind) (name : Option Standing → Stop) (st : List Mark)
    (f : List Mark → Outcome (List Mark)) (now : List Mark) → and_on (try_mark p k name st) f ≡ goes_on now
    → (fits k (standing_at st p) ≡ true) × (f (mark p k ∷ st) ≡ goes_on now)
gone_on p k name st f now e = go (fits k (standing_at st p)) refl e
  where
    go : (b : Bool) → fits k (standing_at st p) ≡ b
        → and_on (if b then goes_on (mark p k ∷ st) else stops (name (standing_at st p))) f ≡ goes_on now
        → (fits k (standing_at st p) ≡ true) × (f (mark p k ∷ st) ≡ goes_on now)
    go true h e = (h, e)
    go false h e = cc

gone_one : (p : Path) (k : MarkKind) (name : Option Standing → Stop) (st now : List Mark)
    → try_mark p k name st ≡ goes_on now → (fits k (standing_at st p) ≡ true) × (mark p k ∷ st ≡ now)
gone_one p k name st now e = go (fits k (standing_at st p)) refl e
  where
    go : (b : Bool) → fits k (standing_at st p) ≡ b
        → (if b then goes_on (mark p k ∷ st) else stops (name (standing_at st p))) ≡ goes_on now
        → (fits k (standing_at st p) ≡ true) × (mark p k ∷ st ≡ now)
    go true h e = (h, cc)
    go false h e = cc

one_ran : (p r : Path) (keys : List Key) (v : Data) (k : MarkKind) (st : List Mark) → Tells st
    → fits k (standing_at st (p ++ r)) ≡ true → KeysSay v (texts keys) r k
    → RowRan p keys v st (mark (p ++ r) k ∷ st)
one_ran p r keys v k st t f y = record {
  tells = tells_more (mark (p ++ r) k) st t f;
  kept = λ a. next a;
  made = λ a. from a;
}
  where
    from : {q : Path} {c : MarkKind} → Among (mark q c) (mark (p ++ r) k ∷ st)
        → Among (mark q c) st ⊎ ((s : Path) × (q ≡ p ++ s) × KeysSay v (texts keys) s c)
    from first = inr (r, refl, y)
    from (next a) = inl a

pub row_ran : (p : Path) (before : KeyTexts) (keys : List Key) (v : Data) (st now : List Mark) → Tells st
    → try_row p before keys v st ≡ goes_on now → RowRan p keys v st now
row_ran p before [] v st now t e =
    let u : (fits (valued v) (standing_at st p) ≡ true) × (mark p (valued v) ∷ st ≡ now) =
    gone_one p (valued v) (last_stop before (last_key [])) st now e in
    subst (λ now. RowRan p [] v st now) (ap (λ q. mark q (valued v) ∷ st) (append_none p) ∙ u.1)
    (one_ran p [] [] v (valued v) st t (ap (λ q. fits (valued v) (standing_at st q)) (append_none p) ∙ u.0) value_here)
row_ran p before (k ∷ []) v st now t e =
    let u : (fits (valued v) (standing_at st (p ++ key k.text ∷ [])) ≡ true)
    × (mark (p ++ key k.text ∷ []) (valued v) ∷ st ≡ now) =
    gone_one (p ++ key k.text ∷ []) (valued v) (last_stop before k) st now e in
    subst (λ now. RowRan p (k ∷ []) v st now) u.1
    (one_ran p (key k.text ∷ []) (k ∷ []) v (valued v) st t u.0 (deeper value_here))
row_ran p before (k ∷ l ∷ ks) v st now t e =
    let u : (fits dotted (standing_at st here) ≡ true)
    × (try_row here (before ++ k.text ∷ []) (l ∷ ks) v (mark here dotted ∷ st) ≡ goes_on now) =
    gone_on here dotted (λ m. at_row before k) st (λ st. try_row here (before ++ k.text ∷ []) (l ∷ ks) v st) now e in
    more (one_ran p (key k.text ∷ []) (k ∷ l ∷ ks) v dotted st t u.0 dots_here)
    (row_ran here (before ++ k.text ∷ []) (l ∷ ks) v (mark here dotted ∷ st) now
    (tells_more (mark here dotted) st t u.0) u.1)
  where
    here : Path
    here = p ++ key k.text ∷ []

    more : RowRan p (k ∷ l ∷ ks) v st (mark here dotted ∷ st) → RowRan here (l ∷ ks) v (mark here dotted ∷ st) now
        → RowRan p (k ∷ l ∷ ks) v st now
    more a b = record { tells = b.tells; kept = λ x. b.kept (a.kept x); made = λ x. from (b.made x) }
      where
        from : {q : Path} {c : MarkKind} → Among (mark q c) (mark here dotted ∷ st)
            ⊎ ((r : Path) × (q ≡ here ++ r) × KeysSay v (texts (l ∷ ks)) r c)
            → Among (mark q c) st ⊎ ((r : Path) × (q ≡ p ++ r) × KeysSay v (texts (k ∷ l ∷ ks)) r c)
        from (inl x) = a.made x
        from (inr y) = inr (key k.text ∷ y.0, y.1 ∙ append_assoc p (key k.text ∷ []) y.0, deeper y.2)
