-- Two texts with the same tokens from a token on, character by character, and what stands at the front of both.
use Rattle.std.proofs.Common.{◌≡◌, ◌⊎◌, inl, inr, ℕ, ◌==◌, Bool, true, false, cond, List, [], ◌∷◌, refl, ap, sym}
use Rattle.std.proofs.Common.{◌∙◌, subst}
use Rattle.std.specs.Prelude.{◌&&◌, ◌||◌, not}
use Rattle.std.proofs.lemmas.Bool.{false≢true, eqb-true, or_left, or_cases, and_parts}
use Rattle.basic_toml_tokens.specs.Text.{Text, StartsWith, run, after_run, is_keylike, is_comment, after_blanks}
use Rattle.basic_toml_tokens.specs.Strings.{is_quote, IsString}
use Rattle.basic_toml_tokens.proofs.TokenIsUnique.{string_same}
use Rattle.basic_toml_grammar.specs.Grammar.{is_wordlike}
use Rattle.basic_toml_grammar.specs.Respaced.{after_spaces, at_token, joins, is_sign, begins_with_bracket}
use Rattle.basic_toml_grammar.specs.Holes.{begins_key, begins_value}
use Rattle.basic_toml_grammar.proofs.Grammar.GrammarCarried.{begins_element, element_seen}
use Rattle.basic_toml_grammar.proofs.Grammar.GrammarIsUnambiguous.{sign_same, Heads, heads_not, string_heads}
use Rattle.basic_toml_grammar.proofs.Spacing.GapsSkipped.{apart, past_feeds, gap_past, begins_space, stands}
use Rattle.basic_toml_grammar.proofs.Spacing.GapsSkipped.{spaces_still, past_still}
use Rattle.basic_toml_grammar.proofs.Spacing.GapsSkipped.{spaces_are_blanks, blanks_are_spaces}

-- whether the first character of a text belongs to the token that c is of
abbrev pub goes_on : Bool → ℕ → Text → Bool
goes_on b c [] = false
goes_on b c (x ∷ text) = joins b c x.1

-- both at the front of a token, or over
pub data Alike : Bool → Text → Text → Type 0 where
  both_over : {b : Bool} {text other : Text} → past_feeds text ≡ [] → past_feeds other ≡ [] → Alike b text other
  both_feed : {b : Bool} {p q : ℕ} {text other : Text}
      → Alike (begins_with_bracket (at_token text)) (at_token text) (at_token other)
      → Alike b ((p, 10) ∷ text) ((q, 10) ∷ other)
  both_sign : {b : Bool} {c p q : ℕ} {text other : Text} → is_sign c ≡ true → goes_on b c text ≡ goes_on b c other
      → Alike b (after_spaces text) (after_spaces other) → Alike b ((p, c) ∷ text) ((q, c) ∷ other)
  both_string : {b : Bool} {p q : ℕ} {m : Bool} {v : List ℕ} {text other rest rest' : Text} → IsString text p m v rest
      → IsString other q m v rest' → Alike b (after_spaces rest) (after_spaces rest') → Alike b text other

-- both after a token, and both at the start of a line
abbrev pub After : Bool → Text → Text → Type 0
After b text other = Alike b (after_spaces text) (after_spaces other)

abbrev pub LinesAlike : Text → Text → Type 0
LinesAlike text other = Alike (begins_with_bracket (at_token text)) (at_token text) (at_token other)

-- a sign is no feed and no quote
sign_is : (c : ℕ) → is_sign c ≡ true → ((c == 10) ≡ false) × (is_quote c ≡ false)
sign_is c e = go (c == 10) (is_quote c) e
  where
    go : (a b : Bool) → not (a || b) ≡ true → (a ≡ false) × (b ≡ false)
    go true b e = absurd (false≢true e)
    go false true e = absurd (false≢true e)
    go false false e = (refl, refl)

quote_no_feed : (c : ℕ) → is_quote c ≡ true → (c == 10) ≡ false
quote_no_feed c e = apart is_quote c 10 e refl

pub not_over : {text next : Text} {p c : ℕ} → past_feeds text ≡ [] → StartsWith c text p next → (c == 10) ≡ false → ⊥
not_over {next = next} {p = p} {c = c} h s e =
    let g : (p, c) ∷ next ≡ [] = sym (ap past_feeds s ∙ ap (λ b. cond b (at_token next) ((p, c) ∷ next)) e) ∙ h in
    cc

-- a sign at the front of one stands at the front of the other
pub record Sign (b : Bool) (c : ℕ) (next other : Text) : Type 0 where
  pub offset : ℕ
  pub rest : Text
  pub sign : StartsWith c other offset rest
  pub joined : goes_on b c next ≡ goes_on b c rest
  pub after : After b next rest

pub sign_there : {b : Bool} {c p : ℕ} {text other next : Text} → Alike b text other → StartsWith c text p next
    → is_sign c ≡ true → Sign b c next other
sign_there {c = c} (both_over h k) s e = absurd (not_over h s (sign_is c e).0)
sign_there {c = c} (both_feed a) s e =
    let same : 10 ≡ c = (sign_same refl s).1 in
    absurd (false≢true (ap is_sign same ∙ e))
sign_there {b = b} {c = c} {next = next} (both_sign {c = d} {q = q} {text = text} {other = other} f g a) s e =
    let r = sign_same refl s in
    subst (λ c. Sign b c next ((q, d) ∷ other)) r.1
    (subst (λ next. Sign b d next ((q, d) ∷ other)) r.2
    (record { offset = q; rest = other; sign = refl; joined = g; after = a }))
sign_there {c = c} (both_string x y a) s e = absurd (heads_not (string_heads x) s (sign_is c e).1)

-- and so does a string
pub record Quoted (b : Bool) (m : Bool) (v : List ℕ) (rest other : Text) : Type 0 where
  pub offset : ℕ
  pub left : Text
  pub string : IsString other offset m v left
  pub after : After b rest left

pub string_there : {b m : Bool} {p : ℕ} {v : List ℕ} {text other rest : Text} → Alike b text other
    → IsString text p m v rest → Quoted b m v rest other
string_there (both_over h k) s =
    let x = string_heads s in
    absurd (not_over h x.sign (quote_no_feed x.char x.kind))
string_there (both_feed a) s = absurd (heads_not (string_heads s) refl refl)
string_there (both_sign {c = c} f g a) s = absurd (heads_not (string_heads s) refl (sign_is c f).1)
string_there {b = b} {m = m} {v = v} {rest = rest}
    (both_string {q = q} {m = n} {v = w} {other = other} {rest = r} {rest' = r'} x y a) s =
    let e = string_same x s in
    subst (λ v. Quoted b m v rest other) e.0 (subst (λ m. Quoted b m w rest other) e.1
    (subst (λ rest. Quoted b n w rest other) e.2 (record { offset = q; left = r'; string = y; after = a })))

-- a character that no gap begins with, and that a comment may hold
abbrev pub is_seen : ℕ → Bool
is_seen c = is_comment c && not (begins_space c)

pub seen_parts : (c : ℕ) → is_seen c ≡ true → (is_comment c ≡ true) × (begins_space c ≡ false)
seen_parts c e = let r = and_parts (is_comment c) (not (begins_space c)) e in (r.0, go (begins_space c) r.1)
  where
    go : (b : Bool) → not b ≡ true → b ≡ false
    go true e = absurd (false≢true e)
    go false e = refl

seen_feed : (c : ℕ) → is_seen c ≡ true → (c == 10) ≡ false
seen_feed c e = apart is_seen c 10 e refl

pub seen_hash : (c : ℕ) → is_seen c ≡ true → (c == 35) ≡ false
seen_hash c e = apart is_seen c 35 e refl

quote_seen : (c : ℕ) → is_quote c ≡ true → is_seen c ≡ true
quote_seen c e = go (or_cases (c == 34) (c == 39) e)
  where
    go : ((c == 34) ≡ true) ⊎ ((c == 39) ≡ true) → is_seen c ≡ true
    go (inl h) = ap is_seen (eqb-true c 34 h)
    go (inr h) = ap is_seen (eqb-true c 39 h)

pub still : {text next : Text} {p c : ℕ} → StartsWith c text p next → is_seen c ≡ true → stands text ≡ false
still {c = c} s e = ap stands s ∙ (seen_parts c e).1

-- what is seen at the front of one is matched by what is seen at the front of the other
pub seen_there : {b : Bool} {text other : Text} → Alike b text other → Heads is_seen text → Heads is_seen other
seen_there (both_over h k) x = absurd (not_over h x.sign (seen_feed x.char x.kind))
seen_there (both_feed a) x = absurd (heads_not x refl refl)
seen_there (both_sign {c = c} {q = q} {other = other} f g a) x = record {
  offset = q;
  char = c;
  next = other;
  sign = refl;
  kind = ap is_seen (sign_same refl x.sign).1 ∙ x.kind;
}
seen_there (both_string x y a) z =
    let h = string_heads y in
    record { offset = h.offset; char = h.char; next = h.next; sign = h.sign; kind = quote_seen h.char h.kind }

-- after blanks, where something is seen
pub blanks_alike : {b : Bool} (text other : Text) → After b text other → Heads is_seen (after_blanks text)
    → Alike b (after_blanks text) (after_blanks other)
blanks_alike {b = b} text other a h =
    let e : after_spaces text ≡ after_blanks text = spaces_are_blanks text h.sign (seen_hash h.char h.kind) in
    let x : Alike b (after_blanks text) (after_spaces other) = subst (λ t. Alike b t (after_spaces other)) e a in
    let k = seen_there x h in
    subst (λ t. Alike b (after_blanks text) t) (sym (blanks_are_spaces other k.sign (seen_parts k.char k.kind).0)) x

pub sign_after_blanks : {b : Bool} {c p : ℕ} {next : Text} (text other : Text) → After b text other
    → StartsWith c (after_blanks text) p next → is_seen c ≡ true → is_sign c ≡ true → Sign b c next (after_blanks other)
sign_after_blanks {c = c} {p = p} {next = next} text other a s e f =
    sign_there (blanks_alike text other a (record { offset = p; char = c; next = next; sign = s; kind = e })) s f

-- after a gap
pub record Gaps (text other : Text) : Type 0 where
  pub bracketed : Bool
  pub alike : Alike bracketed (at_token text) (at_token other)

past_alike : {b : Bool} {text other : Text} → Alike b text other
    → (a : Bool) × Alike a (past_feeds text) (past_feeds other)
past_alike {b = b} {text = text} {other = other} (both_over h k) =
    (b, subst (λ t. Alike b t (past_feeds other)) (sym h) (subst (λ t. Alike b [] t) (sym k) (both_over refl refl)))
past_alike (both_feed {text = text} a) = (begins_with_bracket (at_token text), a)
past_alike {b = b} (both_sign {c = c} {p = p} {q = q} {text = text} {other = other} f g a) = (
  b,
  subst (λ (i : Bool). Alike b (cond i (at_token text) ((p, c) ∷ text)) (cond i (at_token other) ((q, c) ∷ other)))
      (sym (sign_is c f).0) (both_sign f g a),
)
past_alike {b = b} {text = text} {other = other} (both_string x y a) =
    let h = string_heads x in
    let k = string_heads y in (
      b,
      subst (λ t. Alike b t (past_feeds other))
          (sym (past_still text (still h.sign (quote_seen h.char h.kind))))
          (subst (λ t. Alike b text t) (sym (past_still other (still k.sign (quote_seen k.char k.kind))))
          (both_string x y a)),
    )

pub gaps_alike : {b : Bool} (text other : Text) → After b text other → Gaps text other
gaps_alike text other a =
    let r = past_alike a in
    record {
      bracketed = r.0;
      alike = subst (λ t. Alike r.0 t (at_token other)) (sym (gap_past text))
          (subst (λ t. Alike r.0 (past_feeds (after_spaces text)) t) (sym (gap_past other)) r.1);
    }

-- Words. A run of characters of words goes on in both as far.
abbrev pub heads : (ℕ → Bool) → Text → Bool
heads f [] = false
heads f (x ∷ text) = f x.1

abbrev pub OfWords : (ℕ → Bool) → Type 0
OfWords f = (c : ℕ) → f c ≡ true → is_wordlike c ≡ true

-- what an array goes on with is seen, and what a key or a value begins with
pub element_is_seen : (c : ℕ) → begins_element c ≡ true → is_seen c ≡ true
element_is_seen c e = (λ i. element_seen c e i && not (((no 32 refl i || no 9 refl i) || no 10 refl i) || no 35 refl i))
  where
    no : (d : ℕ) → begins_element d ≡ false → (c == d) ≡ false
    no d n = apart begins_element c d e n

pub value_is_seen : (c : ℕ) → begins_value c ≡ true → is_seen c ≡ true
value_is_seen c e = element_is_seen c (or_left _ _ e)

word_is_value : (c : ℕ) → is_wordlike c ≡ true → begins_value c ≡ true
word_is_value c e = or_left _ _ (or_left _ _ e)

pub word_is_seen : (c : ℕ) → is_wordlike c ≡ true → is_seen c ≡ true
word_is_seen c e = value_is_seen c (word_is_value c e)

pub key_is_seen : (c : ℕ) → begins_key c ≡ true → is_seen c ≡ true
key_is_seen c e = go (or_cases (is_keylike c) (is_quote c) e)
  where
    go : (is_keylike c ≡ true) ⊎ (is_quote c ≡ true) → is_seen c ≡ true
    go (inl h) = word_is_seen c (or_left _ _ h)
    go (inr h) = quote_seen c h

pub seen_heads : {f : ℕ → Bool} {text : Text} → ((c : ℕ) → f c ≡ true → is_seen c ≡ true) → Heads f text
    → Heads is_seen text
seen_heads w h =
    record { offset = h.offset; char = h.char; next = h.next; sign = h.sign; kind = w h.char h.kind }

pub word_is_sign : (c : ℕ) → is_wordlike c ≡ true → is_sign c ≡ true
word_is_sign c e = (λ i. not (no 10 refl i || (no 34 refl i || no 39 refl i)))
  where
    no : (d : ℕ) → is_wordlike d ≡ false → (c == d) ≡ false
    no d n = apart is_wordlike c d e n

-- a character of a word joins those of words
pub word_joins : (b : Bool) (c d : ℕ) → is_wordlike c ≡ true → joins b c d ≡ is_wordlike d
word_joins b c d e = (λ i. (e i && is_wordlike d) || (((no 91 refl i || no 93 refl i) && d == c) && b)) ∙
    go (is_wordlike d)
  where
    no : (d : ℕ) → is_wordlike d ≡ false → (c == d) ≡ false
    no d n = apart is_wordlike c d e n

    go : (a : Bool) → (a || false) ≡ a
    go true = refl
    go false = refl

none_of : (f : ℕ → Bool) → OfWords f → (c : ℕ) → is_wordlike c ≡ false → f c ≡ false
none_of f w c e = go (f c) refl
  where
    go : (a : Bool) → f c ≡ a → a ≡ false
    go true h = absurd (false≢true (sym e ∙ w c h))
    go false h = refl

-- both at the first characters of words
words_there : (b : Bool) (x y : ℕ × ℕ) (text other : Text) → is_wordlike x.1 ≡ true → is_wordlike y.1 ≡ true
    → After b (x ∷ text) (y ∷ other) → Sign b x.1 text (y ∷ other)
words_there b x y text other e f a =
    let here : stands (x ∷ text) ≡ false = still {next = text} {p = x.0} {c = x.1} refl (word_is_seen x.1 e) in
    let there : stands (y ∷ other) ≡ false = still {next = other} {p = y.0} {c = y.1} refl (word_is_seen y.1 f) in
    sign_there {p = x.0} (subst (λ t. Alike b t (y ∷ other)) (spaces_still (x ∷ text) here)
    (subst (λ t. Alike b (after_spaces (x ∷ text)) t) (spaces_still (y ∷ other) there) a))
    refl (word_is_sign x.1 e)

-- the first characters after one of a word pass in both or in neither
heads_alike : (f : ℕ → Bool) → OfWords f → (b : Bool) (c : ℕ) (text other : Text) → is_wordlike c ≡ true
    → goes_on b c text ≡ goes_on b c other → After b text other → heads f text ≡ heads f other
heads_alike f w b c [] [] e g a = refl
heads_alike f w b c [] (y ∷ other) e g a = sym (none_of f w y.1 (sym (word_joins b c y.1 e) ∙ sym g))
heads_alike f w b c (x ∷ text) [] e g a = none_of f w x.1 (sym (word_joins b c x.1 e) ∙ g)
heads_alike f w b c (x ∷ text) (y ∷ other) e g a = go (is_wordlike x.1) refl
  where
    same : is_wordlike x.1 ≡ is_wordlike y.1
    same = sym (word_joins b c x.1 e) ∙ g ∙ word_joins b c y.1 e

    go : (a : Bool) → is_wordlike x.1 ≡ a → f x.1 ≡ f y.1
    go false h = none_of f w x.1 h ∙ sym (none_of f w y.1 (sym same ∙ h))
    go true h =
        let z = words_there b x y text other h (sym same ∙ h) a in
        sym (ap f (sign_same {c = y.1} {p = y.0} {r = other} refl z.sign).1)

pub record Run (f : ℕ → Bool) (b : Bool) (text other : Text) : Type 0 where
  pub same : run f text ≡ run f other
  pub after : After b (after_run f text) (after_run f other)

stopped : (f : ℕ → Bool) (text : Text) → heads f text ≡ false → (run f text ≡ []) × (after_run f text ≡ text)
stopped f [] e = (refl, refl)
stopped f (x ∷ text) e =
    (ap (λ b. cond b (x.1 ∷ run f text) []) e, ap (λ b. cond b (after_run f text) (x ∷ text)) e)

not_begun : (f : ℕ → Bool) (b : Bool) (text other : Text) → heads f text ≡ false → heads f other ≡ false
    → After b text other → Run f b text other
not_begun f b text other e g a =
    let s = stopped f text e in
    let t = stopped f other g in
    record {
      same = s.0 ∙ sym t.0;
      after = subst (λ t. After b t (after_run f other)) (sym s.1) (subst (λ t. After b text t) (sym t.1) a);
    }

one_further : (f : ℕ → Bool) (b : Bool) (c p q : ℕ) (text other : Text) → f c ≡ true → Run f b text other
    → Run f b ((p, c) ∷ text) ((q, c) ∷ other)
one_further f b c p q text other h r = record {
  same = ap (λ (cs : List ℕ). cond (f c) (c ∷ cs) []) r.same;
  after = subst (λ (i : Bool). After b (cond i (after_run f text) ((p, c) ∷ text))
      (cond i (after_run f other) ((q, c) ∷ other))) (sym h) r.after;
}

pub runs_alike : (f : ℕ → Bool) → OfWords f → (b : Bool) (text other : Text) → heads f text ≡ heads f other
    → After b text other → Run f b text other
runs_alike f w b [] other e a = not_begun f b [] other refl (sym e) a
runs_alike f w b (x ∷ text) [] e a = not_begun f b (x ∷ text) [] e refl a
runs_alike f w b (x ∷ text) (y ∷ other) e a =
    go (f x.1) refl (λ rest e a. runs_alike f w b text rest e a)
  where
    go : (i : Bool) → f x.1 ≡ i
        → ((rest : Text) → heads f text ≡ heads f rest → After b text rest → Run f b text rest)
        → Run f b (x ∷ text) (y ∷ other)
    go false h ih = not_begun f b (x ∷ text) (y ∷ other) h (sym e ∙ h) a
    go true h ih =
        let z = words_there b x y text other (w x.1 h) (w y.1 (sym e ∙ h)) a in
        subst (λ t. Run f b (x ∷ text) t) (sym z.sign)
        (one_further f b x.1 x.0 z.offset text z.rest h
        (ih z.rest (heads_alike f w b x.1 text z.rest (w x.1 h) z.joined z.after) z.after))

-- so does one that begins at the front
pub run_there : (f : ℕ → Bool) → OfWords f → {b : Bool} {text other : Text} → Alike b text other → Heads f text
    → Run f b text other × Heads f other
run_there f w {b = b} {text = text} {other = other} a h =
    let word : is_wordlike h.char ≡ true = w h.char h.kind in
    let z = sign_there a h.sign (word_is_sign h.char word) in (
      subst (λ t. Run f b t other) (sym h.sign) (subst (λ t. Run f b ((h.offset, h.char) ∷ h.next) t) (sym z.sign)
          (one_further f b h.char h.offset z.offset h.next z.rest h.kind
          (runs_alike f w b h.next z.rest (heads_alike f w b h.char h.next z.rest word z.joined z.after) z.after))),
      record { offset = z.offset; char = h.char; next = z.rest; sign = z.sign; kind = h.kind },
    )
