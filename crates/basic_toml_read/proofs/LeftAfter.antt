-- What is left of a text after blanks, comments, gaps and words.
use Rattle.std.proofs.Common.{◌≡◌, ℕ, ◌==◌, true, cond, [], ◌∷◌, refl, ap, sym, ◌∙◌, arith, Some, None, eqb-true}
use Rattle.std.proofs.lemmas.Bool.Decides.{nat_tests}
use Rattle.std.proofs.lemmas.Bool.{or_from, eq-eqb}
use Rattle.basic_toml_tokens.specs.Text.{Text, StartsWith, after_run, is_blank, is_keylike, is_comment, after_blanks}
use Rattle.basic_toml_tokens.proofs.SpacesAreRuns.{after_twice, fails_first}
use Rattle.basic_toml_grammar.specs.Grammar.{is_wordlike, after_comment_by, after_gap, after_gap_from}
use Rattle.basic_toml_grammar.specs.Reader.{char_at, string_at, end_of}

-- a character at the front, and another one
pub sign_there : {c p : ℕ} {text rest : Text} → StartsWith c text p rest → char_at c text ≡ Some (p, rest)
sign_there {c = c} {p = p} {rest = rest} s = ap (char_at c) s ∙ ap (λ b. cond b (Some (p, rest)) None) (eq-eqb c c refl)

pub sign_missing : (c : ℕ) (text : Text) → after_run (λ x. x == c) text ≡ text → char_at c text ≡ None
sign_missing c [] e = refl
sign_missing c (x ∷ text) e = ap (λ b. cond b (Some (x.0, text)) None) (fails_first (λ x. x == c) x text e)

pub no_comment : (text : Text) → after_run (λ x. x == 35) text ≡ text → after_comment_by is_comment text ≡ text
no_comment [] e = refl
no_comment (x ∷ text) e = ap (λ b. cond b (after_run is_comment text) (x ∷ text)) (fails_first (λ x. x == 35) x text e)

-- the end of a line
pub no_end : (text : Text) → after_run (λ c. c == 10) text ≡ text → (text ≡ [] → ⊥) → end_of text ≡ None
no_end [] e some = absurd (some refl)
no_end (x ∷ text) e some = ap (λ b. cond b (Some text) None) (fails_first (λ c. c == 10) x text e)

-- gaps
pub gap_past_blanks : (text : Text) → after_gap is_comment (after_blanks text) ≡ after_gap is_comment text
gap_past_blanks [] = refl
gap_past_blanks (x ∷ text) = grind (arith, gap_past_blanks text)

in_comment : (text : Text) → after_gap_from is_comment true text ≡ after_gap is_comment (after_run is_comment text)
in_comment [] = refl
in_comment (x ∷ text) = grind (arith, nat_tests, or_from, in_comment text)

pub gap_past_comment : (text : Text)
    → after_gap is_comment (after_comment_by is_comment text) ≡ after_gap is_comment text
gap_past_comment [] = refl
gap_past_comment (x ∷ text) =
    grind (arith, in_comment text, eqb-true x.1 35)

abbrev pub line_of : Text → Text
line_of text = after_comment_by is_comment (after_blanks text)

pub gap_past_line : (text : Text) → after_gap is_comment (line_of text) ≡ after_gap is_comment text
gap_past_line text = gap_past_comment (after_blanks text) ∙ gap_past_blanks text

-- a gap ends where neither a blank nor a line feed nor a comment stands
pub gap_stands : (text : Text) → after_blanks text ≡ text → after_run (λ c. c == 10) text ≡ text
    → after_run (λ c. c == 35) text ≡ text → after_gap is_comment text ≡ text
gap_stands [] a b c = refl
gap_stands (x ∷ text) a b c =
    let no_feed = fails_first (λ d. d == 10) x text b in
    grind (arith, fails_first is_blank x text a, fails_first (λ d. d == 35) x text c)

-- nor does it go on where no line feed stands after a comment
pub gap_stops : (text : Text) → after_run (λ c. c == 10) (line_of text) ≡ line_of text
    → after_gap is_comment (line_of text) ≡ line_of text
gap_stops text e = go (after_blanks text) (after_twice is_blank text) e
  where
    after : (t : Text) → after_run is_comment t ≡ t → after_run (λ c. c == 10) t ≡ t → after_gap is_comment t ≡ t
    after [] h k = refl
    after (x ∷ t) h k =
        grind (arith, nat_tests, or_from, fails_first is_comment x t h, fails_first (λ c. c == 10) x t k)

    go : (t : Text) → after_blanks t ≡ t
        → after_run (λ c. c == 10) (after_comment_by is_comment t) ≡ after_comment_by is_comment t
        → after_gap is_comment (after_comment_by is_comment t) ≡ after_comment_by is_comment t
    go [] h k = refl
    go (x ∷ t) h k = grind (arith, after (after_run is_comment t) (after_twice is_comment t), gap_stands (x ∷ t) h)

-- over a line feed
pub gap_past_feed : {p : ℕ} {text next : Text} → StartsWith 10 text p next
    → after_gap is_comment next ≡ after_gap is_comment text
gap_past_feed s = sym (ap (after_gap is_comment) s)

-- words
pub no_joint : (text : Text) → after_run (λ x. x == 46) text ≡ text → after_run (λ x. x == 43) text ≡ text
    → after_run is_keylike text ≡ text → after_run is_wordlike text ≡ text
no_joint [] a b k = refl
no_joint (x ∷ text) a b k =
    let no_period = fails_first (λ x. x == 46) x text a in
    grind (arith, fails_first is_keylike x text k, fails_first (λ x. x == 43) x text b)

-- strings
pub no_string : (text : Text) → after_run (λ x. x == 34) text ≡ text → after_run (λ x. x == 39) text ≡ text
    → string_at text ≡ None
no_string [] a b = refl
no_string (x ∷ text) a b =
    grind (arith, fails_first (λ x. x == 34) x text a, fails_first (λ x. x == 39) x text b)

-- where a gap is all that is left
pub gap_over : (text next : Text) → end_of text ≡ Some next → after_gap is_comment text ≡ []
    → after_gap is_comment next ≡ []
gap_over [] next e gap = let same : [] ≡ next = cc in ap (after_gap is_comment) (sym same)
gap_over (x ∷ text) next e gap = grind (arith, eqb-true x.1 10)

no_feed_there : (text : Text) → end_of text ≡ None → after_run (λ c. c == 10) text ≡ text
no_feed_there [] e = cc
no_feed_there (x ∷ text) e = grind (arith, e)

pub gap_ends_line : (text : Text) → end_of (line_of text) ≡ None → after_gap is_comment text ≡ [] → ⊥
gap_ends_line text e gap =
    let over : line_of text ≡ [] =
    sym (gap_stops text (no_feed_there (line_of text) e)) ∙ gap_past_line text ∙ gap in
    cc (e, ap end_of over)

pub gap_has_no_bracket : {p : ℕ} {rest : Text} (text : Text) → StartsWith 91 (after_blanks text) p rest
    → after_gap is_comment text ≡ [] → ⊥
gap_has_no_bracket text s gap = cc (sym (ap (after_gap is_comment) s) ∙ gap_past_blanks text ∙ gap)
