-- Tokens lead over signs, blanks, gaps and words, and which token is the last.
use Rattle.std.proofs.Common.{inl, inr, ◌≡◌, ℕ, zero, suc, ◌<◌, ◌≤◌, ◌==◌, ◌||◌, Bool, true, false, cond, List, [], ◌∷◌}
use Rattle.std.proofs.Common.{length, refl, ap, sym, ◌∙◌, subst, arith, eqb-true, Some}
use Rattle.std.proofs.lemmas.Bool.{or_cases, or_left, false≢true}
use Rattle.basic_toml_tokens.specs.Text.{Text, StartsWith, after_run, is_blank, is_keylike, is_comment}
use Rattle.basic_toml_tokens.specs.Text.{after_blanks}
use Rattle.basic_toml_tokens.specs.TokenAt as token
use Rattle.basic_toml_tokens.specs.TokenAt.{Lexeme, whitespace, comment, keylike, string, plus, period}
use Rattle.basic_toml_tokens.specs.TokenAt.{newline}
use Rattle.basic_toml_tokens.specs.TokenAt.{punctuation_of, IsToken}
use Rattle.basic_toml_grammar.specs.Grammar.{is_wordlike, after_comment_by, after_gap, after_gap_from}
use Rattle.basic_toml_grammar.proofs.Grammar.StringsAreRead.{length_run}
use Rattle.basic_toml_grammar.proofs.Viable.NumbersOnTheWay.{Sound, may_number, plain_sound, blank_plain}
use Rattle.basic_toml_grammar.proofs.Viable.NumbersOnTheWay.{InWord, whole, within}

-- Tokens lead there, and no number at fault begins on the way where a value may stand.
pub data Led (start : Text) (end : ℕ) : Text → Type 0 where
  at_start : Led start end start
  after : {l : Lexeme} {text rest : Text} → Led start end text → IsToken [] text l rest → Sound start end text
      → Led start end rest

-- and the last of them is of a kind
pub data LedBy (start : Text) (end : ℕ) (kind : Lexeme → Bool) : Text → Type 0 where
  by_none : LedBy start end kind start
  by : {l : Lexeme} {text rest : Text} → Led start end text → IsToken [] text l rest → Sound start end text
      → kind l ≡ true → LedBy start end kind rest

pub led : {start text : Text} {end : ℕ} {kind : Lexeme → Bool} → LedBy start end kind text → Led start end text
led by_none = at_start
led (by r t q k) = after r t q

-- any; none but a comment; blanks and what no character joins
abbrev pub any : Lexeme → Bool
any l = true

abbrev pub no_comment : Lexeme → Bool
no_comment (comment _) = false
no_comment _ = true

abbrev pub loose : Lexeme → Bool
loose (comment _) = false
loose (keylike _) = false
loose (string _ _ _) = false
loose _ = true

pub freely : {start text : Text} {end : ℕ} → Led start end text → LedBy start end any text
freely at_start = by_none
freely (after r t q) = by r t q refl

module _ {start : Text} {end : ℕ} where
  -- a sign with which no number begins
  pub over_sign : {kind : Lexeme → Bool} {text rest : Text} {p : ℕ} (c : ℕ) (l : Lexeme) → Led start end text
      → StartsWith c text p rest → punctuation_of c ≡ Some l → may_number c ≡ false → kind l ≡ true
      → LedBy start end kind rest
  over_sign c l r s e n k = by r (token.punctuation s e) (plain_sound end s n) k

  pub over_blanks : {kind : Lexeme → Bool} (text : Text) → ((bytes : List ℕ) → kind (whitespace bytes) ≡ true)
      → LedBy start end kind text → LedBy start end kind (after_blanks text)
  over_blanks [] w r = r
  over_blanks {kind = kind} (x ∷ text) w r = go (is_blank x.1) refl
    where
      go : (b : Bool) → is_blank x.1 ≡ b → LedBy start end kind (cond b (after_blanks text) (x ∷ text))
      go false e = r
      go true e =
          let there : after_blanks (x ∷ text) ≡ after_blanks text =
          ap (λ (b : Bool). cond b (after_blanks text) (x ∷ text)) e in
          subst (λ (t : Text). LedBy start end kind t) there (by (led r) (token.blanks refl e)
          (plain_sound {c = x.1} {p = x.0} end refl (blank_plain x.1 e)) (w _))

  pub over_line : (text : Text) → Led start end text → Led start end (after_comment_by is_comment (after_blanks text))
  over_line text r = over_comment (after_blanks text) (led (over_blanks {kind = any} text (λ b. refl) (freely r)))
    where
      over_comment : (text : Text) → Led start end text → Led start end (after_comment_by is_comment text)
      over_comment [] r = r
      over_comment (x ∷ text) r = go (x.1 == 35) refl
        where
          go : (b : Bool) → (x.1 == 35) ≡ b → Led start end (cond b (after_run is_comment text) (x ∷ text))
          go false e = r
          go true e =
              let hash : StartsWith 35 (x ∷ text) x.0 text = ap (λ (c : ℕ). (x.0, c) ∷ text) (eqb-true x.1 35 e) in
              after r (token.remark hash) (plain_sound end hash refl)

-- a gap goes on after blanks, and after a comment
gap_past_blanks : (text : Text) → after_gap is_comment (after_blanks text) ≡ after_gap is_comment text
gap_past_blanks [] = refl
gap_past_blanks (x ∷ text) = go (is_blank x.1) refl (gap_past_blanks text)
  where
    go : (b : Bool) → is_blank x.1 ≡ b → after_gap is_comment (after_blanks text) ≡ after_gap is_comment text
        → after_gap is_comment (cond b (after_blanks text) (x ∷ text)) ≡ after_gap is_comment (x ∷ text)
    go false e on = refl
    go true e on = on ∙ sym (ap (λ (b : Bool). cond (b || x.1 == 10) (after_gap is_comment text)
        (cond (x.1 == 35) (after_gap_from is_comment true text) (x ∷ text))) e)

gap_past_comment : (text : Text)
    → after_gap_from is_comment true (after_run is_comment text) ≡ after_gap_from is_comment true text
gap_past_comment [] = refl
gap_past_comment (x ∷ text) = go (is_comment x.1) refl (x.1 == 10) refl (gap_past_comment text)
  where
    go : (b : Bool) → is_comment x.1 ≡ b → (a : Bool) → (x.1 == 10) ≡ a
        → after_gap_from is_comment true (after_run is_comment text) ≡ after_gap_from is_comment true text
        → after_gap_from is_comment true (cond b (after_run is_comment text) (x ∷ text))
        ≡ after_gap_from is_comment true (x ∷ text)
    go false e a f on = refl
    go true e true f on = absurd (false≢true (ap is_comment (sym (eqb-true x.1 10 f)) ∙ e))
    go true e false f on = on ∙ sym (ap (λ a. cond a (after_gap is_comment text)
        (cond (is_comment x.1) (after_gap_from is_comment true text) (x ∷ text))) f ∙
        ap (λ b. cond b (after_gap_from is_comment true text) (x ∷ text)) e)

run_twice : (f : ℕ → Bool) (text : Text) → after_run f (after_run f text) ≡ after_run f text
run_twice f [] = refl
run_twice f (x ∷ text) = go (f x.1) refl (run_twice f text)
  where
    go : (b : Bool) → f x.1 ≡ b → after_run f (after_run f text) ≡ after_run f text
        → after_run f (cond b (after_run f text) (x ∷ text)) ≡ cond b (after_run f text) (x ∷ text)
    go true e on = on
    go false e on = ap (λ b. cond b (after_run f text) (x ∷ text)) e

-- what follows at a character: blank, line feed, or the sign of a comment
abbrev gap_choice : ℕ × ℕ → Text → Bool → Bool → Bool → Text
gap_choice x text a b c =
    cond (a || b) (after_gap is_comment text) (cond c (after_gap_from is_comment true text) (x ∷ text))

gap_from : {start : Text} {end : ℕ} (x : ℕ × ℕ) (text : Text) → Led start end (x ∷ text)
    → ((next : Text) → length next < length (x ∷ text) → Led start end next → Led start end (after_gap is_comment next))
    → Led start end (after_gap is_comment (x ∷ text))
gap_from {start = start} {end = end} x text r rec = go (is_blank x.1) refl (x.1 == 10) refl (x.1 == 35) refl
  where
    behind : (u : Text) → length u ≤ length text → Led start end u → after_run is_comment u ≡ u
        → Led start end (after_gap_from is_comment true u)
    behind [] l q s = q
    behind (y ∷ u) l q s = at (y.1 == 10) refl (is_comment y.1) refl
      where
        at : (a : Bool) → (y.1 == 10) ≡ a → (b : Bool) → is_comment y.1 ≡ b
            → Led start end (cond a (after_gap is_comment u) (cond b (after_gap_from is_comment true u) (y ∷ u)))
        at true e b f =
            let feed : StartsWith 10 (y ∷ u) y.0 u = ap (λ (c : ℕ). (y.0, c) ∷ u) (eqb-true y.1 10 e) in
            rec u (omega (arith, l)) (after q (token.punctuation {l = newline} feed refl) (plain_sound end feed refl))
        at false e false f = q
        at false e true f =
            let all : after_run is_comment u ≡ y ∷ u =
            sym (ap (λ b. cond b (after_run is_comment u) (y ∷ u)) f) ∙ s in
            absurd (omega (arith, ap length all, length_run is_comment u))

    go : (a : Bool) → is_blank x.1 ≡ a → (b : Bool) → (x.1 == 10) ≡ b → (c : Bool) → (x.1 == 35) ≡ c
        → Led start end (after_gap is_comment (x ∷ text))
    go true e b f c g =
        let there : after_blanks (x ∷ text) ≡ after_blanks text =
        ap (λ (b : Bool). cond b (after_blanks text) (x ∷ text)) e in
        let q : Led start end (after_blanks text) =
        subst (λ (t : Text). Led start end t) there
        (after r (token.blanks refl e) (plain_sound {c = x.1} {p = x.0} end refl (blank_plain x.1 e))) in
        subst (λ (t : Text). Led start end t) (ap (after_gap is_comment) (sym there) ∙ gap_past_blanks (x ∷ text))
        (rec (after_blanks text) (omega (arith, length_run is_blank text)) q)
    go false e true f c g =
        let feed : StartsWith 10 (x ∷ text) x.0 text = ap (λ (c : ℕ). (x.0, c) ∷ text) (eqb-true x.1 10 f) in
        subst (λ (t : Text). Led start end t)
        (sym (ap (λ a. gap_choice x text a (x.1 == 10) (x.1 == 35)) e ∙ ap (λ b. gap_choice x text false b (x.1 == 35)) f))
        (rec text (omega arith) (after r (token.punctuation {l = newline} feed refl) (plain_sound end feed refl)))
    go false e false f true g =
        let hash : StartsWith 35 (x ∷ text) x.0 text = ap (λ (c : ℕ). (x.0, c) ∷ text) (eqb-true x.1 35 g) in
        subst (λ (t : Text). Led start end t)
        (gap_past_comment text ∙ sym (ap (λ a. gap_choice x text a (x.1 == 10) (x.1 == 35)) e ∙
        ap (λ b. gap_choice x text false b (x.1 == 35)) f ∙ ap (λ c. gap_choice x text false false c) g))
        (behind (after_run is_comment text) (length_run is_comment text) (after r (token.remark hash) (plain_sound end hash refl))
        (run_twice is_comment text))
    go false e false f false g =
        subst (λ (t : Text). Led start end t)
        (sym (ap (λ a. gap_choice x text a (x.1 == 10) (x.1 == 35)) e ∙ ap (λ b. gap_choice x text false b (x.1 == 35)) f ∙
        ap (λ c. gap_choice x text false false c) g)) r

gap_within : (n : ℕ) {start : Text} {end : ℕ} (text : Text) → length text < n → Led start end text
    → Led start end (after_gap is_comment text)
gap_within zero text h r = absurd (omega arith)
gap_within (suc n) [] h r = r
gap_within (suc n) (x ∷ text) h r = gap_from x text r (λ next less q. gap_within n next (omega arith) q)

pub over_gap : {start : Text} {end : ℕ} (text : Text) → Led start end text → Led start end (after_gap is_comment text)
over_gap text r = gap_within (suc (length text)) text (omega arith) r

-- a word is keylike tokens, periods and pluses
words_on : (text : Text) → after_run is_wordlike (after_run is_keylike text) ≡ after_run is_wordlike text
words_on [] = refl
words_on (x ∷ text) = go (is_keylike x.1) refl (words_on text)
  where
    go : (b : Bool) → is_keylike x.1 ≡ b
        → after_run is_wordlike (after_run is_keylike text) ≡ after_run is_wordlike text
        → after_run is_wordlike (cond b (after_run is_keylike text) (x ∷ text)) ≡ after_run is_wordlike (x ∷ text)
    go false e on = refl
    go true e on = on ∙
        sym (ap (λ b. cond (b || (x.1 == 43 || x.1 == 46)) (after_run is_wordlike text) (x ∷ text)) e)

pub joint : (c : ℕ) → is_wordlike c ≡ true → is_keylike c ≡ false → (l : Lexeme) × (punctuation_of c ≡ Some l)
    × (no_comment l ≡ true)
joint c w k = elim (or_cases (c == 43) (c == 46) (ap (λ b. b || (c == 43 || c == 46)) (sym k) ∙ w)) [
  | inl e ↦ (plus, ap punctuation_of (eqb-true c 43 e), refl)
  | inr e ↦ (period, ap punctuation_of (eqb-true c 46 e), refl)
]

-- one token of a word
record Step (start : Text) (end : ℕ) (word : Text) (x : ℕ × ℕ) (text : Text) : Type 0 where
  next : Text
  lead : LedBy start end no_comment next
  left : InWord word next
  on : after_run is_wordlike next ≡ after_run is_wordlike (x ∷ text)
  shorter : length next < length (x ∷ text)

pub run_within : {word : Text} (text : Text) → InWord word text → InWord word (after_run is_keylike text)
run_within [] q = q
run_within {word = word} (x ∷ text) q = go (is_keylike x.1) refl (λ q. run_within text q)
  where
    go : (b : Bool) → is_keylike x.1 ≡ b → (InWord word text → InWord word (after_run is_keylike text))
        → InWord word (cond b (after_run is_keylike text) (x ∷ text))
    go true k rec = rec (within q (or_left _ _ k))
    go false k rec = q

word_step : {start word : Text} {end : ℕ} (x : ℕ × ℕ) (text : Text) → Led start end (x ∷ text)
    → InWord word (x ∷ text) → Sound start end (x ∷ text) → is_wordlike x.1 ≡ true → Step start end word x text
word_step {start = start} {word = word} {end = end} x text r q sound w = go (is_keylike x.1) refl
  where
    go : (b : Bool) → is_keylike x.1 ≡ b → Step start end word x text
    go true k =
        let there : after_run is_keylike (x ∷ text) ≡ after_run is_keylike text =
        ap (λ b. cond b (after_run is_keylike text) (x ∷ text)) k in
        record {
          next = after_run is_keylike (x ∷ text);
          lead = by r (token.word {p = x.0} {c = x.1} refl k) sound refl;
          left = run_within (x ∷ text) q;
          on = words_on (x ∷ text);
          shorter = omega (arith, ap length there, length_run is_keylike text);
        }
    go false k =
        let (l, s, g) = joint x.1 w k in
        record {
          next = text;
          lead = by r (token.punctuation {p = x.0} {c = x.1} refl s) sound g;
          left = within q w;
          on = sym (ap (λ b. cond b (after_run is_wordlike text) (x ∷ text)) w);
          shorter = omega arith;
        }

-- each place in a word is sound
abbrev pub SoundWord : Text → ℕ → Text → Type 0
SoundWord start end word = (left : Text) → InWord word left → Sound start end left

words_within : (n : ℕ) {start word : Text} {end : ℕ} (text : Text) → length text < n → LedBy start end no_comment text
    → InWord word text → SoundWord start end word → LedBy start end no_comment (after_run is_wordlike text)
words_within zero text h r q sound = absurd (omega arith)
words_within (suc n) [] h r q sound = r
words_within (suc n) {start = start} {word = word} {end = end} (x ∷ text) h r q sound = go (is_wordlike x.1) refl
    (λ next less r q. words_within n next (omega (arith, less)) r q sound)
  where
    go : (b : Bool) → is_wordlike x.1 ≡ b
        → ((next : Text) → length next < length (x ∷ text) → LedBy start end no_comment next → InWord word next
        → LedBy start end no_comment (after_run is_wordlike next))
        → LedBy start end no_comment (after_run is_wordlike (x ∷ text))
    go true w rec = let t = word_step x text (led r) q (sound (x ∷ text) q) w in
        subst (λ (t : Text). LedBy start end no_comment t) t.on (rec t.next t.shorter t.lead t.left)
    go false w rec = subst (λ (t : Text). LedBy start end no_comment t)
        (sym (ap (λ b. cond b (after_run is_wordlike text) (x ∷ text)) w)) r

pub over_word : {start : Text} {end c p : ℕ} (text : Text) {next : Text} → Led start end text → SoundWord start end text
    → StartsWith c text p next → is_wordlike c ≡ true → LedBy start end no_comment (after_run is_wordlike text)
over_word {start = start} {end = end} {c = c} {p = p} text {next = next} r sound s w =
    let d = subst (λ (t : Text). Led start end t) s r in
    let q = subst (λ (t : Text). InWord text t) s whole in
    let t = word_step (p, c) next d q (sound _ q) w in
    subst (λ (t : Text). LedBy start end no_comment t) (t.on ∙ sym (ap (after_run is_wordlike) s))
    (words_within (suc (length t.next)) t.next (omega arith) t.lead t.left sound)
