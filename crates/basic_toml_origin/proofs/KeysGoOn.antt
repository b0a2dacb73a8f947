-- The key with which a row goes on from others, key by key.
use Rattle.std.proofs.Common.{◌≡◌, ℕ, zero, suc, ◌-◌, ◌<◌, Bool, true, false, ◌&&◌, not, List, [], ◌∷◌, ◌++◌, Option}
use Rattle.std.proofs.Common.{Some, None, refl, ap, sym, ◌∙◌, arith, length, length-append, map}
use Rattle.std.specs.Prelude.{if◌then◌else◌}
use Rattle.std.specs.Str.{bytes_eq}
use Rattle.basic_toml_grammar.specs.Sections.{Key, KeyTexts, texts}
use Rattle.basic_toml_grammar.specs.Steps.{key, Path, begins, properly_begins, steps_of}
use Rattle.basic_toml_grammar.specs.NamedClash.{nth_key}
use Rattle.basic_toml_grammar.proofs.Clash.ClashesAgree.{turn_eq}
use Rattle.basic_toml_read.specs.declared.section.Key as code
use Rattle.basic_toml_read.specs.KeyText.{key_text_bytes}
use Rattle.basic_toml_read.specs.SectionView.{header_texts, key_of}
use Rattle.basic_toml_origin.specs.Crossing.{key_going_on}

-- one key does not go on from keys
none_on : (ks : KeyTexts) (last : List ℕ) (own : Key) → key_going_on (ks ++ last ∷ []) (own ∷ []) ≡ None
none_on [] last own =
    ap (λ b. if b then Some own.offset else None)
    (same (bytes_eq last own.text) (bytes_eq own.text last) (turn_eq (key last) (key own.text)))
  where
    same : (a b : Bool) → a ≡ b → ((a && true) && not (b && true)) ≡ false
    same true true e = refl
    same true false e = cc
    same false b e = refl
none_on (k ∷ ks) last own = rw (never (bytes_eq k own.text) ks) refl
  where
    never : (b : Bool) (ks : KeyTexts) → (b && begins (steps_of (ks ++ last ∷ [])) []) ≡ false
    never true [] = refl
    never true (l ∷ ks) = refl
    never false ks = refl

-- the last key
ends_here : (last : List ℕ) (p : Key) (ps : List Key) (own : Key)
    → key_going_on (last ∷ []) (p ∷ (ps ++ own ∷ [])) ≡ (if bytes_eq last p.text then Some p.offset else None)
ends_here last p ps own =
    ap (λ b. if b then Some p.offset else None)
    (tested (bytes_eq last p.text) (bytes_eq p.text last) (begins (steps_of (texts (ps ++ own ∷ []))) []) (longer ps))
  where
    longer : (ps : List Key) → begins (steps_of (texts (ps ++ own ∷ []))) [] ≡ false
    longer [] = refl
    longer (p ∷ ps) = refl

    tested : (a b c : Bool) → c ≡ false → ((a && true) && not (b && c)) ≡ a
    tested true true c e = ap not e
    tested true false c e = refl
    tested false b c e = refl

-- a key before it
goes_on : (k : List ℕ) (ks : KeyTexts) (last : List ℕ) (p : Key) (ps : List Key) (own : Key)
    → key_going_on (k ∷ (ks ++ last ∷ [])) (p ∷ (ps ++ own ∷ []))
    ≡ (if bytes_eq k p.text then key_going_on (ks ++ last ∷ []) (ps ++ own ∷ []) else None)
goes_on k ks last p ps own =
    tested (bytes_eq k p.text) (bytes_eq p.text k) (begins q r) (begins r q)
    (Some (nth_key (length (k ∷ (ks ++ last ∷ [])) - 1) (p ∷ (ps ++ own ∷ []))).offset)
    (turn_eq (key k) (key p.text))
    ∙ ap (λ (l : Key). if bytes_eq k p.text then (if properly_begins q r then Some l.offset else None) else None)
    (further (length (ks ++ last ∷ [])) (omega (arith, length-append ks (last ∷ []))))
  where
    q : Path
    q = steps_of (ks ++ last ∷ [])

    r : Path
    r = steps_of (texts (ps ++ own ∷ []))

    tested : (a b x y : Bool) (o : Option ℕ) → a ≡ b
        → (if (a && x) && not (b && y) then o else None) ≡ (if a then (if x && not y then o else None) else None)
    tested true true x y o e = refl
    tested true false x y o e = cc
    tested false b x y o e = refl

    further : (n : ℕ) → 0 < n → nth_key (suc n - 1) (p ∷ (ps ++ own ∷ [])) ≡ nth_key (n - 1) (ps ++ own ∷ [])
    further zero some = absurd (omega (arith, some))
    further (suc n) some =
        let one : suc (suc n) - 1 ≡ suc n = omega arith in
        let two : suc n - 1 ≡ n = omega arith in
        rw (one, two) refl

-- the same of the code's keys, behind which `last` and `own` stand
module _ (last : List ℕ) (own : Key) where
  abbrev found : List code.Key → List code.Key → Option ℕ
  found ks ps = key_going_on (header_texts ks ++ last ∷ []) (map key_of ps ++ own ∷ [])

  pub at_none : (ks ps : List code.Key) → length ps ≡ 0 → found ks ps ≡ None
  at_none ks [] none = none_on (header_texts ks) last own
  at_none ks (p ∷ ps) none = absurd (omega (arith, none))

  pub at_last : (ks ps left : List code.Key) (p : code.Key) (name : List ℕ) (same : Bool) → length ks ≡ 0
      → ps ≡ p ∷ left → name ≡ key_text_bytes p.text → same ≡ bytes_eq last name
      → found ks ps ≡ (if same then Some p.offset else None)
  at_last [] ps left p name same none is named tested =
      ap (found []) is ∙ ends_here last (key_of p) (map key_of left) own
      ∙ ap (λ (b : Bool). if b then Some p.offset else None)
      (sym (tested ∙ ap (bytes_eq last) named))
  at_last (k ∷ ks) ps left p name same none is named tested = absurd (omega (arith, none))

  pub at_key : (ks others ps left : List code.Key) (k p : code.Key) (text name : List ℕ) (same : Bool)
      → ks ≡ k ∷ others → ps ≡ p ∷ left → text ≡ key_text_bytes k.text → name ≡ key_text_bytes p.text
      → same ≡ bytes_eq text name → found ks ps ≡ (if same then found others left else None)
  at_key ks others ps left k p text name same is there texted named tested =
      ap (λ ks. found ks ps) is ∙ ap (found (k ∷ others)) there
      ∙ goes_on (key_text_bytes k.text) (header_texts others) last (key_of p) (map key_of left) own
      ∙ ap (λ (b : Bool). if b then found others left else None)
      (sym (tested ∙ ap (λ t. bytes_eq t name) texted ∙ ap (bytes_eq (key_text_bytes k.text)) named))
