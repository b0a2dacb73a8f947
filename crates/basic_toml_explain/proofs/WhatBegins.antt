-- What the first character tells of the token that it begins, and what fits no hole.
use Rattle.std.proofs.Common.{◌⊎◌, inl, inr, ◌≡◌, ℕ, ◌==◌, ◌||◌, Bool, true, false, cond, List, [], ◌∷◌, refl, ap, sym}
use Rattle.std.proofs.Common.{◌∙◌, Option, Some, None, codes}
use Rattle.std.proofs.lemmas.Bool.{eqb-true, or_cases, or_from, or_parts, false≢true}
use Rattle.basic_toml_tokens.specs.Text.{Text, run, is_blank, is_keylike}
use Rattle.basic_toml_tokens.specs.Strings.{is_quote, IsString}
use Rattle.basic_toml_tokens.specs.TokenAt.{Lexeme, keylike, string, period, plus, punctuation_of, IsToken, punctuation}
use Rattle.basic_toml_tokens.specs.TokenAt.{blanks, word, remark, quoted}
use Rattle.basic_toml_tokens.proofs.TokenIsUnique.{token_same}
use Rattle.basic_toml_grammar.specs.Faults.{wanted}
use Rattle.basic_toml_grammar.specs.Grammar.{is_wordlike}
use Rattle.basic_toml_grammar.specs.GrammarFaults.{is_key, is_unquoted}
use Rattle.basic_toml_grammar.specs.Holes.{Hole, Fits, fits}
use Rattle.basic_toml_grammar.specs.Viable.{Want, mismatch_kind}
use Rattle.basic_toml_grammar.proofs.Grammar.StringsAreRead.{string_found}
use Rattle.basic_toml_explain.specs.Cursor.{code_of}
use Rattle.basic_toml_explain.specs.Number.{is_joint, begins_word}
use Rattle.basic_toml_explain.specs.StopHoles.{NoValue}
use Rattle.basic_toml_explain.proofs.TakenTokenStands.{word_is, sign_is}

none_some : {A : Type 0} (x : A) → None ≡ Some x → ⊥
none_some x e = cc

-- what does not fit
pub missing_fit : {h : Hole} {x : ℕ × ℕ} {next : Text} → (Fits h (x ∷ next) → ⊥) → fits h x.1 ≡ false
missing_fit {h = h} {x = x} {next = next} none = go (fits h x.1) refl
  where
    go : (b : Bool) → fits h x.1 ≡ b → fits h x.1 ≡ false
    go false e = e
    go true e = absurd (none (record { offset = x.0; char = x.1; rest = next; starts = refl; fit = e }))

quote_is : (c : ℕ) → is_quote c ≡ true → (c ≡ 34) ⊎ (c ≡ 39)
quote_is c e = go (or_cases (c == 34) (c == 39) e)
  where
    go : ((c == 34) ≡ true) ⊎ ((c == 39) ≡ true) → (c ≡ 34) ⊎ (c ≡ 39)
    go (inl h) = inl (eqb-true c 34 h)
    go (inr h) = inr (eqb-true c 39 h)

-- what no quote is
no_quote : (f : ℕ → Bool) → f 34 ≡ false → f 39 ≡ false → (c : ℕ) → is_quote c ≡ true → f c ≡ true → ⊥
no_quote f a b c q e = go (quote_is c q)
  where
    go : (c ≡ 34) ⊎ (c ≡ 39) → ⊥
    go (inl h) = false≢true (sym a ∙ ap f (sym h) ∙ e)
    go (inr h) = false≢true (sym b ∙ ap f (sym h) ∙ e)

record Quoted (text rest : Text) : Type 0 where
  offset : ℕ
  multiline : Bool
  value : List ℕ
  is : IsString text offset multiline value rest

-- a quote begins a string
quote_begins : {source : List ℕ} {text next rest : Text} {l : Lexeme} (p c : ℕ) → text ≡ (p, c) ∷ next
    → is_quote c ≡ true → IsToken source text l rest → Quoted text rest
quote_begins {next = next} p c s q (punctuation {p = o} {c = k} {l = l} {rest = rest} at e) =
    let both : (p, c) ∷ next ≡ (o, k) ∷ rest = sym s ∙ at in
    let heads : (p, c) ≡ (o, k) = cc in
    let same : c ≡ k = ap (λ (y : ℕ × ℕ). y.1) heads in
    absurd (go k same (quote_is c q) e)
  where
    go : (k : ℕ) → c ≡ k → (c ≡ 34) ⊎ (c ≡ 39) → punctuation_of k ≡ Some l → ⊥
    go k same (inl h) e = none_some l (ap punctuation_of (sym h ∙ same) ∙ e)
    go k same (inr h) e = none_some l (ap punctuation_of (sym h ∙ same) ∙ e)
quote_begins {next = next} p c s q (blanks {p = o} {c = k} {next = more} at e) =
    let both : (p, c) ∷ next ≡ (o, k) ∷ more = sym s ∙ at in
    let heads : (p, c) ≡ (o, k) = cc in
    let same : c ≡ k = ap (λ (y : ℕ × ℕ). y.1) heads in
    absurd (no_quote is_blank refl refl c q (ap is_blank same ∙ e))
quote_begins {next = next} p c s q (word {p = o} {c = k} {next = more} at e) =
    let both : (p, c) ∷ next ≡ (o, k) ∷ more = sym s ∙ at in
    let heads : (p, c) ≡ (o, k) = cc in
    let same : c ≡ k = ap (λ (y : ℕ × ℕ). y.1) heads in
    absurd (no_quote is_keylike refl refl c q (ap is_keylike same ∙ e))
quote_begins {next = next} p c s q (remark {p = o} {next = more} at) =
    let both : (p, c) ∷ next ≡ (o, 35) ∷ more = sym s ∙ at in
    let heads : (p, c) ≡ (o, 35) = cc in
    let same : c ≡ 35 = ap (λ (y : ℕ × ℕ). y.1) heads in
    absurd (no_quote (λ c. c == 35) refl refl c q (ap (λ c. c == 35) same))
quote_begins p c s q (quoted i) = record { offset = _; multiline = _; value = _; is = i }

-- where a token stands that is no key, its first character begins none
pub key_misfits : {source : List ℕ} {x : ℕ × ℕ} {next rest : Text} {l : Lexeme} → IsToken source (x ∷ next) l rest
    → is_key l ≡ false → fits Hole.key x.1 ≡ false
key_misfits {source = source} {x = x} {next = next} {rest = rest} {l = l} t n = or_from (is_keylike x.1) (is_quote x.1) (bare (is_keylike x.1) refl)
    (quote (is_quote x.1) refl)
  where
    bare : (b : Bool) → is_keylike x.1 ≡ b → b ≡ false
    bare false e = refl
    bare true e =
        let mine : IsToken source (x ∷ next) (keylike (run is_keylike (x ∷ next))) _ = word refl e in
        absurd (false≢true (sym n ∙ ap is_key (token_same t mine).0))

    quote : (b : Bool) → is_quote x.1 ≡ b → b ≡ false
    quote false e = refl
    quote true e =
        let q = quote_begins x.0 x.1 refl e t in
        let mine : IsToken source (x ∷ next) _ rest = quoted q.is in
        absurd (false≢true (sym n ∙ ap is_key (token_same t mine).0))

-- so what is found there has no word of its own
pub key_kind : (l : Lexeme) (w : List ℕ) → is_key l ≡ false
    → mismatch_kind Want.table_key (Some l) w ≡ wanted (codes "a table key") w
key_kind (string source value m) w n = cc
key_kind _ w n = refl

-- where a token stands and no value, no value begins
pub value_misfits : {source : List ℕ} {x : ℕ × ℕ} {next rest : Text} {l : Lexeme} → IsToken source (x ∷ next) l rest
    → NoValue (x ∷ next) → fits Hole.value x.1 ≡ false
value_misfits {x = x} {next = next} t n =
    or_from (is_wordlike x.1 || is_quote x.1) (x.1 == 91 || x.1 == 123)
    (or_from (is_wordlike x.1) (is_quote x.1) (no_word (is_wordlike x.1) n.0) (quote (is_quote x.1) refl))
    (or_from (x.1 == 91) (x.1 == 123) (no_sign (x.1 == 91) n.2) (no_sign (x.1 == 123) n.3))
  where
    no_word : (b : Bool) → cond b (x.1 ∷ run is_wordlike next) [] ≡ [] → b ≡ false
    no_word false e = refl
    no_word true e = cc

    no_sign : (b : Bool) → cond {A = Option (ℕ × Text)} b (Some (x.0, next)) None ≡ None → b ≡ false
    no_sign false e = refl
    no_sign true e = absurd (none_some (x.0, next) (sym e))

    quote : (b : Bool) → is_quote x.1 ≡ b → b ≡ false
    quote false e = refl
    quote true e =
        let q = quote_begins x.0 x.1 refl e t in
        absurd (none_some _ (sym n.1 ∙ string_found q.is))

pub value_kind : {source : List ℕ} {x : ℕ × ℕ} {next rest : Text} {l : Lexeme} (w : List ℕ)
    → IsToken source (x ∷ next) l rest → fits Hole.value x.1 ≡ false
    → mismatch_kind Want.value (Some l) w ≡ wanted (codes "a value") w
value_kind {x = x} {next = next} {l = l} w t e = go l refl
  where
    plain : is_keylike x.1 ≡ false
    plain =
        let words = (or_parts (is_wordlike x.1 || is_quote x.1) (x.1 == 91 || x.1 == 123) e).0 in
        (or_parts (is_keylike x.1) (x.1 == 43 || x.1 == 46) (or_parts (is_wordlike x.1) (is_quote x.1) words).0).0

    go : (m : Lexeme) → l ≡ m → mismatch_kind Want.value (Some m) w ≡ wanted (codes "a value") w
    go (keylike v) h =
        let i = word_is v t h in
        let none : run is_keylike (x ∷ next) ≡ [] = ap (λ (b : Bool). cond b (x.1 ∷ run is_keylike next) []) plain in
        let no : [] ≡ i.2.0 ∷ i.2.1 = sym none ∙ i.0 ∙ i.2.2 in cc
    go _ h = refl

-- what goes on as a word begins with a character of words
pub wordlike_first : (x : ℕ × ℕ) (next : Text) → (run is_wordlike (x ∷ next) ≡ [] → ⊥) → is_wordlike x.1 ≡ true
wordlike_first x next some = go (is_wordlike x.1) refl
  where
    go : (b : Bool) → is_wordlike x.1 ≡ b → b ≡ true
    go true e = refl
    go false e = absurd (some (ap (λ (b : Bool). cond b (x.1 ∷ run is_wordlike next) []) e))

-- a word begins with a keylike character
pub word_begins : (x : ℕ × ℕ) (next : Text) → is_unquoted (run is_keylike (x ∷ next)) ≡ true → is_keylike x.1 ≡ true
word_begins x next u = go (is_keylike x.1) u
  where
    go : (b : Bool) → is_unquoted (cond b (x.1 ∷ run is_keylike next) []) ≡ true → b ≡ true
    go true u = refl
    go false u = cc

-- what goes on as a word, and begins with neither a word nor a plus, begins with a period
pub period_begins : {source : List ℕ} {rest : Text} {l : Lexeme} (x : ℕ × ℕ) (next : Text)
    → IsToken source (x ∷ next) l rest → begins_word l ≡ false → (run is_wordlike (x ∷ next) ≡ [] → ⊥) → x.1 ≡ 46
period_begins {source = source} x next t n some = go (is_keylike x.1) refl (x.1 == 43) refl (x.1 == 46) refl
  where
    go : (a : Bool) → is_keylike x.1 ≡ a → (b : Bool) → (x.1 == 43) ≡ b → (c : Bool) → (x.1 == 46) ≡ c → x.1 ≡ 46
    go a e b f true g = eqb-true x.1 46 g
    go true e b f false g =
        let mine : IsToken source (x ∷ next) (keylike (run is_keylike (x ∷ next))) _ = word refl e in
        absurd (false≢true (sym n ∙ ap begins_word (token_same t mine).0))
    go false e true f false g =
        let mine : IsToken source (x ∷ next) plus next = punctuation refl (ap punctuation_of (eqb-true x.1 43 f)) in
        absurd (false≢true (sym n ∙ ap begins_word (token_same t mine).0))
    go false e false f false g =
        let none : is_wordlike x.1 ≡ false =
        or_from (is_keylike x.1) (x.1 == 43 || x.1 == 46) e (or_from (x.1 == 43) (x.1 == 46) f g) in
        absurd (some (ap (λ (b : Bool). cond b (x.1 ∷ run is_wordlike next) []) none))

-- a period or a plus is a character of words, and begins none
pub joint_begins : {source : List ℕ} {y : ℕ × ℕ} {s rest : Text} {l : Lexeme} → IsToken source (y ∷ s) l rest
    → is_joint l ≡ true → (is_wordlike y.1 ≡ true) × (is_keylike y.1 ≡ false)
joint_begins {y = y} {s = s} {rest = rest} {l = l} t j = go l t j
  where
    here : {source : List ℕ} (c : ℕ) (m : Lexeme) → punctuation_of c ≡ Some m → IsToken source (y ∷ s) m rest
        → code_of m ≡ c → punctuation_of (code_of m) ≡ Some m → y.1 ≡ c
    here c m e t k h =
        let (p, starts) = sign_is t h in
        let both : y ∷ s ≡ (p, code_of m) ∷ rest = starts in
        let heads : y ≡ (p, code_of m) = cc in
        ap (λ (z : ℕ × ℕ). z.1) heads ∙ k

    go : {source : List ℕ} (m : Lexeme) → IsToken source (y ∷ s) m rest → is_joint m ≡ true
        → (is_wordlike y.1 ≡ true) × (is_keylike y.1 ≡ false)
    go period t j = let e = here 46 period refl t refl refl in (ap is_wordlike e, ap is_keylike e)
    go plus t j = let e = here 43 plus refl t refl refl in (ap is_wordlike e, ap is_keylike e)
    go _ t j = cc
