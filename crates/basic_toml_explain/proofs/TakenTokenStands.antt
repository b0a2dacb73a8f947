-- What a tokenizer answers, as what stands at the front of its text.
use Rattle.std.proofs.Common.{inl, inr, ◌≡◌, ℕ, ◌-◌, ◌<◌, ◌≤◌, ◌==◌, ◌||◌, Bool, true, false, cond, List, []}
use Rattle.std.proofs.Common.{◌∷◌, length, get_or, refl, ap, sym, ◌∙◌, subst, arith, Option, Some, None, Result, Ok}
use Rattle.std.proofs.Common.{Err, IsErrAnd}
use Rattle.std.specs.Str.{IsUtf8, IsCharBoundary}
use Rattle.std.specs.Borrow.{Bor}
use Rattle.std.proofs.lemmas.Str.{IsCharBoundary-before_ascii}
use Rattle.std.proofs.lemmas.Bool.{eqb-true, eq-eqb, or_cases, or_from, both_ways, cases_lt}
use Rattle.std.proofs.lemmas.Bool.Decides.{nat_tests}
use Rattle.basic_toml_tokens.specs.declared.error.Error.{Error}
use Rattle.basic_toml_tokens.specs.Text.{Text, StartsWith, offset_in, text_at, run, after_run, is_keylike}
use Rattle.basic_toml_tokens.specs.TokenAt.{Lexeme, newline, equals, period, comma, colon, plus, left_brace}
use Rattle.basic_toml_tokens.specs.TokenAt.{right_brace, left_bracket, right_bracket, keylike, punctuation_of}
use Rattle.basic_toml_tokens.specs.TokenAt.{IsToken, punctuation, blanks, word, remark, quoted}
use Rattle.basic_toml_tokens.specs.Reading.{Reading, text_of, between}
use Rattle.basic_toml_tokens.specs.declared.span.Span.{Span}
use Rattle.basic_toml_tokens.specs.declared.token.Token.{Token}
use Rattle.basic_toml_tokens.specs.declared.token.Token.TheVariants as token
use Rattle.basic_toml_tokens.specs.Token.{lexeme_of, HasSource}
use Rattle.basic_toml_tokens.specs.Tokenizer.{Takes, Stops, Peeks, Eats}
use Rattle.basic_toml_tokens.proofs.TextBetweenOffsets.{length-between, get_or-between}
use Rattle.basic_toml_tokens.proofs.StepIsTheFold.{offset_is}
use Rattle.basic_toml_tokens.proofs.RestsArePartsOfText.{over_at_end}
use Rattle.basic_toml_tokens.proofs.TokenIsUnique.{token_same}
use Rattle.basic_toml_grammar.specs.Faults.{Fault}
use Rattle.basic_toml_explain.specs.Error.{token_fault}
use Rattle.basic_toml_grammar.specs.Reader.{char_at}
use Rattle.basic_toml_grammar.specs.Viable.{RefusesToken}
use Rattle.basic_toml_grammar.specs.Grammar.{is_wordlike}
use Rattle.basic_toml_explain.specs.Cursor.{IsStopped, Accepts, IsWordOf}
use Rattle.basic_toml_explain.specs.Cursor.{IsAfterWord}
use Rattle.basic_toml_explain.specs.Cursor.{TakesWord, EatsPunctuation}
use Rattle.basic_toml_explain.specs.Cursor.{code_of, is_word_token}
use Rattle.basic_toml_explain.proofs.RefusedBehind.{fault_told, accepts_end, accepts_token}

-- a tokenizer that stops
pub stopped : (old new : Reading) (error : Error) → Stops old new error → IsStopped (text_of old) (token_fault error)
stopped old new error (inl h) =
    inr (record {
      error = error;
      rest = text_at old.text h.0;
      is_fault = h.1.fault_is;
      names = fault_told h.1.fault_is;
    })
stopped old new error (inr h) = inl (ap token_fault h.0)

-- what the exit of a `?` answers
pub failed : {A : Type 0} (P : Result A Fault → Type 0) (result : Result A Fault) (fault : Fault)
    → IsErrAnd result (λ f. f ≡ fault) → P (Err fault) → P result
failed P (Ok x) fault h p = absurd h
failed P (Err f) fault h p = subst (λ (g : Fault). P (Err g)) (sym h) p

-- what the punctuation of a character may be
abbrev Signs : ℕ → Option Lexeme → Type 0
Signs c None = Unit {0}
Signs c (Some l) = c ≡ code_of l

sign_next : (c k : ℕ) (l : Lexeme) (o : Option Lexeme) → code_of l ≡ k → Signs c o → Signs c (cond (c == k) (Some l) o)
sign_next c k l o e h = go (c == k) refl
  where
    go : (b : Bool) → (c == k) ≡ b → Signs c (cond b (Some l) o)
    go true same = eqb-true c k same ∙ sym e
    go false other = h

pub sign_code : (c : ℕ) → Signs c (punctuation_of c)
sign_code c =
    sign_next c 10 newline _ refl
    (sign_next c 61 equals _ refl (sign_next c 46 period _ refl (sign_next c 44 comma _ refl
    (sign_next c 58 colon _ refl
    (sign_next c 43 plus _ refl (sign_next c 123 left_brace _ refl (sign_next c 125 right_brace _ refl
    (sign_next c 91 left_bracket _ refl (sign_next c 93 right_bracket _ refl tt)))))))))

-- the character of a punctuation
pub code_is : (c : ℕ) (l : Lexeme) → punctuation_of c ≡ Some l → c ≡ code_of l
code_is c l e = subst (Signs c) e (sign_code c)

pub sign_is : {source : List ℕ} {text rest : Text} {l : Lexeme} → IsToken source text l rest
    → punctuation_of (code_of l) ≡ Some l → (p : ℕ) × StartsWith (code_of l) text p rest
sign_is (punctuation {p} {c} {l} {text} {rest} at e) h =
    (p, subst (λ (d : ℕ). StartsWith d text p rest) (code_is c l e) at)
sign_is (blanks at e) h = cc
sign_is (word at e) h = cc
sign_is (remark at) h = cc
sign_is (quoted s) h = cc

sign_there : (c p : ℕ) (text rest : Text) → StartsWith c text p rest → char_at c text ≡ Some (p, rest)
sign_there c p text rest e = ap (char_at c) e ∙ ap (λ (b : Bool). cond b (Some (p, rest)) None) (eq-eqb c c refl)

pub sign_found : {c p : ℕ} {text rest : Text} → StartsWith c text p rest → char_at c text ≡ Some (p, rest)
sign_found {c = c} {p = p} {text = text} {rest = rest} e = sign_there c p text rest e

sign_missing : {source : List ℕ} {rest : Text} {l other : Lexeme} (text : Text) → IsToken source text other rest
    → punctuation_of (code_of l) ≡ Some l → (other ≡ l → ⊥)
    → char_at (code_of l) text ≡ None
sign_missing [] t h ne = refl
sign_missing {source = source} {l = l} (x ∷ text) t h ne = go (x.1 == code_of l) refl
  where
    go : (b : Bool) → (x.1 == code_of l) ≡ b → cond {A = Option (ℕ × Text)} b (Some (x.0, text)) None ≡ None
    go true e =
        let there : StartsWith (code_of l) (x ∷ text) x.0 text =
        ap (λ (d : ℕ). (x.0, d) ∷ text) (eqb-true x.1 (code_of l) e) in
        let mine : IsToken source (x ∷ text) l text = punctuation there h in
        absurd (ne (token_same t mine).0)
    go false e = refl

pub eats : (l : Lexeme) (old new : Reading) (b : Bool) → punctuation_of (code_of l) ≡ Some l → Eats l old new (Ok b)
    → EatsPunctuation (code_of l) old new (Ok b)
eats l old new true s h =
    let (p, there) = sign_is h.0.token s in
    let here_is : p ≡ old.offset = offset_is old.text old.offset (p, code_of l) (text_at old.text new.offset) there in
    let same : text_at old.text new.offset ≡ text_of new = ap (λ (t : List ℕ). text_at t new.offset) (sym h.1) in (
      sign_there (code_of l) p (text_of old) (text_at old.text new.offset) there ∙
          ap (λ (q : ℕ). Some (q, text_at old.text new.offset)) here_is
          ∙ ap (λ (t : Text). Some (old.offset, t)) same,
      h.1,
      subst (λ (t : List ℕ). IsCharBoundary t new.offset) (sym h.1) h.0.boundary,
    )
eats l old new false s (inl e, same) = (ap (char_at (code_of l)) e, same, accepts_end e)
eats l old new false s (inr h, same) = (sign_missing (text_of old) h.2.token s h.3, same, accepts_token h.2.token)

pub peeked : (old new : Reading) (error : Error) → Peeks old new error → IsStopped (text_of old) (token_fault error)
peeked old new error h = stopped old h.1.0 error h.1.1

-- the source of a word
source_of : (t : Token) (w bytes : List ℕ) → lexeme_of t ≡ keylike w → HasSource t bytes → w ≡ bytes
source_of (token.Keylike text) w bytes e h = let same : text.now ≡ w = cc in sym same ∙ h
source_of t w bytes e h = cc

pub keylike_small : (c : ℕ) → is_keylike c ≡ true → c < 128
keylike_small c e = elim (cases_lt c 128) [ inl h ↦ h | inr h ↦ absurd (both_ways (is_keylike c) (wide c h) e) ]
  where
    wide : (c : ℕ) → 128 ≤ c → is_keylike c ≡ false
    wide c h = grind (arith, nat_tests, or_from)

-- a word begins with a keylike character
abbrev pub Begins : Text → List ℕ → Type 0
Begins text w = (c : ℕ) × (cs : List ℕ) × (w ≡ c ∷ cs) × (is_keylike c ≡ true)

pub word_is : {source : List ℕ} {text rest : Text} {l : Lexeme} (w : List ℕ) → IsToken source text l rest
    → l ≡ keylike w
    → (run is_keylike text ≡ w) × (rest ≡ after_run is_keylike text) × Begins text w
word_is w (punctuation {c = c} at e) h = let z : c ≡ code_of (keylike w) =
    code_is c (keylike w) (e ∙ ap (λ (l : Lexeme). Some l) h) in let n : punctuation_of 0 ≡ Some (keylike w) =
    rw z at (e ∙ ap (λ (l : Lexeme). Some l) h) in cc
word_is w (blanks at e) h = cc
word_is w (word {p} {c} {text} {next} at e) h =
    let same : run is_keylike text ≡ w = cc in (
      same,
      refl,
      (
        c,
        run is_keylike next,
        sym same ∙ ap (run is_keylike) at ∙
            ap (λ (b : Bool). cond b (c ∷ run is_keylike next) []) e,
        e,
      ),
    )
word_is w (remark at) h = cc
word_is w (quoted s) h = cc

-- where no word stands there is no run
no_word : (source : List ℕ) (text : Text) → ((w : List ℕ) (rest : Text) → IsToken source text (keylike w) rest → ⊥)
    → run is_keylike text ≡ []
no_word source [] h = refl
no_word source (x ∷ text) h = go (is_keylike x.1) refl
  where
    go : (b : Bool) → is_keylike x.1 ≡ b → cond b (x.1 ∷ run is_keylike text) [] ≡ []
    go true e = absurd (h _ _ (word refl e))
    go false e = refl

pub takes_word : (old new : Reading) (span : Span) (t : Token) (o : Option (Bor (List ℕ))) → Takes old new span t
    → IsWordOf (lexeme_of t) o → TakesWord old new (Ok o)
takes_word old new span t None h none = (
  no_word (between old.text old.offset span.end) (text_of old)
      (λ w rest mine. none w (token_same h.taken.stands.token mine).0),
  accepts_token h.taken.stands.token,
)
takes_word old new span t (Some w) h e =
    let stands = h.taken.stands in
    let (is, rest, some) = word_is w.now stands.token e in
    let same_text : new.text ≡ old.text = ap (λ (r : Reading). r.text) h.after in
    let same_offset : new.offset ≡ span.end = ap (λ (r : Reading). r.offset) h.after in
    let there : text_of new ≡ text_at old.text span.end = ap text_of h.after in
    let spelled : w.now ≡ between old.text old.offset span.end = source_of t w.now _ e h.taken.source in
    let within : span.end ≤ length old.text = stands.boundary.0 in
    let before : old.offset < span.end = stands.forward in
    let long : length w.now ≡ span.end - old.offset = ap length spelled ∙
    length-between old.text old.offset span.end (omega arith) within in
    let first : get_or old.text old.offset 0 ≡ some.0 =
    ap (λ (n : ℕ). get_or old.text n 0) (omega arith) ∙
    sym (get_or-between old.text old.offset span.end 0 (omega arith)) ∙
    ap (λ (t : List ℕ). get_or t 0 0) (sym spelled) ∙ ap (λ (t : List ℕ). get_or t 0 0) some.2 in
    let begins : IsCharBoundary old.text old.offset =
    IsCharBoundary-before_ascii old.text old.offset (omega arith)
    (omega (arith, first, keylike_small some.0 some.3)) in (
      subst (λ (r : Reading). IsAfterWord old.offset w.now r) (sym h.after) (record {
        is = is;
        some = (some.0, some.1, some.2);
        rest = rest;
        offset = omega (arith, long);
        begins = begins;
        ends = stands.boundary;
        token = (
          between old.text old.offset span.end,
          subst (λ (l : Lexeme). IsToken (between old.text old.offset span.end) (text_of old) l
              (text_at old.text span.end)) e stands.token,
        );
      }),
      same_text,
    )

-- at a character of words a token of them stands
wordlike_token : (source : List ℕ) (x : ℕ × ℕ) (text : Text) → is_wordlike x.1 ≡ true → (l : Lexeme) × (rest : Text)
    × IsToken source (x ∷ text) l rest × (is_word_token l ≡ true)
wordlike_token source x text h = elim (or_cases (is_keylike x.1) (x.1 == 43 || x.1 == 46) h) [
  | inl e ↦ (keylike (run is_keylike (x ∷ text)), after_run is_keylike (x ∷ text), word refl e, refl)
  | inr e ↦ (elim (or_cases (x.1 == 43) (x.1 == 46) e) [
    | inl k ↦ (plus, text, punctuation refl (ap punctuation_of (eqb-true x.1 43 k)), refl)
    | inr k ↦ (period, text, punctuation refl (ap punctuation_of (eqb-true x.1 46 k)), refl)
  ])
]

-- so none is refused
pub word_accepts : (text : Text) → (run is_wordlike text ≡ [] → ⊥) → Accepts text
word_accepts [] some = absurd (some refl)
word_accepts (x ∷ text) some = go (is_wordlike x.1) refl
  where
    go : (b : Bool) → is_wordlike x.1 ≡ b → Accepts (x ∷ text)
    go true e = accepts_token (wordlike_token [] x text e).2
    go false e = absurd (some (ap (λ (b : Bool). cond b (x.1 ∷ run is_wordlike text) []) e))

-- and where one is refused no word goes on
pub refused_over : {fault : Fault} (text : Text) → RefusesToken text fault → run is_wordlike text ≡ []
refused_over {fault = fault} text r = go (run is_wordlike text) refl
  where
    go : (w : List ℕ) → run is_wordlike text ≡ w → run is_wordlike text ≡ []
    go [] e = e
    go (c ∷ cs) e = absurd (word_accepts text (λ n. let z : [] ≡ c ∷ cs = sym n ∙ e in cc) fault r)

-- a run of keylike characters stands within one of characters of words
pub run_within : (text : Text) → after_run is_wordlike (after_run is_keylike text) ≡ after_run is_wordlike text
run_within [] = refl
run_within (x ∷ text) = go (is_keylike x.1) refl (run_within text)
  where
    go : (b : Bool) → is_keylike x.1 ≡ b
        → after_run is_wordlike (after_run is_keylike text) ≡ after_run is_wordlike text
        → after_run is_wordlike (cond b (after_run is_keylike text) (x ∷ text))
        ≡ cond (b || (x.1 == 43 || x.1 == 46)) (after_run is_wordlike text) (x ∷ text)
    go true e h = h
    go false e h = ap (λ (b : Bool). cond (b || (x.1 == 43 || x.1 == 46)) (after_run is_wordlike text) (x ∷ text)) e

-- the offset of a text, at its end too
pub offset_here : (bytes : List ℕ) (at : ℕ) → IsUtf8 bytes → IsCharBoundary bytes at
    → offset_in (length bytes) (text_at bytes at) ≡ at
offset_here bytes at whole boundary = go (text_at bytes at) refl
  where
    go : (t : Text) → text_at bytes at ≡ t → offset_in (length bytes) t ≡ at
    go [] e = omega (arith, over_at_end bytes at whole boundary e, boundary.0)
    go (x ∷ t) e = offset_is bytes at x t e

-- where a run of characters of words is over
not_longer : (text : Text) → length (after_run is_wordlike text) ≤ length text
not_longer [] = omega arith
not_longer (x ∷ text) = go (is_wordlike x.1) (not_longer text)
  where
    go : (b : Bool) → length (after_run is_wordlike text) ≤ length text
        → length (cond b (after_run is_wordlike text) (x ∷ text)) ≤ length (x ∷ text)
    go true h = omega arith
    go false h = omega arith

pub run_over : (text : Text) → after_run is_wordlike text ≡ text → run is_wordlike text ≡ []
run_over [] e = refl
run_over (x ∷ text) e = go (is_wordlike x.1) e
  where
    go : (b : Bool) → cond b (after_run is_wordlike text) (x ∷ text) ≡ x ∷ text
        → cond b (x.1 ∷ run is_wordlike text) [] ≡ []
    go true e = absurd (omega (arith, ap length e, not_longer text))
    go false e = refl

-- a word that was taken, as the calls after it ask for it
pub after_same : (at old mid : Reading) (w : List ℕ) → at ≡ old → IsAfterWord at.offset w mid × (mid.text ≡ at.text)
    → IsAfterWord old.offset w mid × (mid.text ≡ old.text)
after_same at old mid w e h = subst (λ (r : Reading). IsAfterWord r.offset w mid × (mid.text ≡ r.text)) e h

pub after_here : (start : ℕ) (w : List ℕ) (r : Reading) → IsAfterWord start w r → IsAfterWord (r.offset - length w) w r
after_here start w r b = let e : start ≡ r.offset - length w = omega (arith, b.offset) in
    subst (λ (n : ℕ). IsAfterWord n w r) e b

pub front_is : (old new : Reading) (w : List ℕ) → IsAfterWord old.offset w new → new.text ≡ old.text
    → text_at new.text (new.offset - length w) ≡ text_of old
front_is old new w b same =
    let e : new.offset - length w ≡ old.offset = omega (arith, b.offset) in
    ap (text_at new.text) e ∙ ap (λ (t : List ℕ). text_at t old.offset) same
