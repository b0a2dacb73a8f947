-- What stands after blanks and comments, and after line feeds too.
use Rattle.std.proofs.Common.{◌≡◌, ◌⊎◌, inl, inr, ℕ, ◌==◌, Bool, true, false, cond, [], ◌∷◌, refl, ap, sym, ◌∙◌}
use Rattle.std.specs.Prelude.{◌||◌}
use Rattle.std.proofs.lemmas.Bool.{false≢true, eqb-true, ne_eqb}
use Rattle.basic_toml_tokens.specs.Text.{Text, StartsWith, after_run, is_blank, is_comment, after_blanks}
use Rattle.basic_toml_grammar.specs.Sections.{Rows}
use Rattle.basic_toml_grammar.specs.Grammar.{after_comment_by, after_gap_from, EndsLine, at_feed, at_end, IsRows}
use Rattle.basic_toml_grammar.specs.Respaced.{after_spaces, at_token}
use Rattle.basic_toml_grammar.proofs.Grammar.GrammarIsUnambiguous.{sign_same}
use Rattle.basic_toml_grammar.proofs.Grammar.GrammarCarried.{line_before}

-- two characters that a test tells apart
pub apart : (f : ℕ → Bool) (c d : ℕ) → f c ≡ true → f d ≡ false → (c == d) ≡ false
apart f c d e n = ne_eqb c d (λ h. false≢true (sym n ∙ ap f (sym h) ∙ e))

-- the first character of a run's rest does not pass
pub run_stops : (f : ℕ → Bool) (text : Text) {q c : ℕ} {next : Text} → after_run f text ≡ (q, c) ∷ next → f c ≡ false
run_stops f [] {q = q} {c = c} {next = next} e = let h : [] ≡ (q, c) ∷ next = e in cc
run_stops f (x ∷ text) {q = q} {c = c} {next = next} e = go (f x.1) refl (λ e. run_stops f text e) e
  where
    go : (b : Bool) → f x.1 ≡ b → (after_run f text ≡ (q, c) ∷ next → f c ≡ false)
        → cond b (after_run f text) (x ∷ text) ≡ (q, c) ∷ next → f c ≡ false
    go true g ih e = ih e
    go false g ih e = ap f (sym (sign_same {c = x.1} {p = x.0} {r = text} refl e).1) ∙ g

-- after line feeds, where one stands at the front
abbrev pub past_feeds : Text → Text
past_feeds [] = []
past_feeds (x ∷ text) = cond (x.1 == 10) (at_token text) (x ∷ text)

no_feed_comment : (c : ℕ) → (c == 10) ≡ true → is_comment c ≡ false
no_feed_comment c e = ap is_comment (eqb-true c 10 e)

remark_past : (text : Text) → after_gap_from is_comment true text ≡ past_feeds (after_run is_comment text)
remark_past [] = refl
remark_past (x ∷ text) = go (x.1 == 10) (is_comment x.1) refl refl (remark_past text)
  where
    go : (a b : Bool) → (x.1 == 10) ≡ a → is_comment x.1 ≡ b
        → after_gap_from is_comment true text ≡ past_feeds (after_run is_comment text)
        → cond a (at_token text) (cond b (after_gap_from is_comment true text) (x ∷ text))
        ≡ past_feeds (cond b (after_run is_comment text) (x ∷ text))
    go true true e f ih = absurd (false≢true (sym (no_feed_comment x.1 e) ∙ f))
    go true false e f ih = sym (ap (λ b. cond b (at_token text) (x ∷ text)) e)
    go false true e f ih = ih
    go false false e f ih = sym (ap (λ b. cond b (at_token text) (x ∷ text)) e)

-- a gap is spaces, and what they leave
pub gap_past : (text : Text) → at_token text ≡ past_feeds (after_spaces text)
gap_past [] = refl
gap_past (x ∷ text) = go (is_blank x.1) (x.1 == 10) (x.1 == 35) refl refl refl (gap_past text) (remark_past text)
  where
    go : (a b c : Bool) → is_blank x.1 ≡ a → (x.1 == 10) ≡ b → (x.1 == 35) ≡ c
        → at_token text ≡ past_feeds (after_spaces text)
        → after_gap_from is_comment true text ≡ past_feeds (after_run is_comment text)
        → cond (a || b) (at_token text) (cond c (after_gap_from is_comment true text) (x ∷ text))
        ≡ past_feeds (after_comment_by is_comment (cond a (after_blanks text) (x ∷ text)))
    go true b c e f g ih ir = ih
    go false true c e f g ih ir =
        let feed : x.1 ≡ 10 = eqb-true x.1 10 f in
        sym (ap (λ d. past_feeds (cond d (after_run is_comment text) (x ∷ text)))
        (ap (λ (n : ℕ). n == 35) feed) ∙ ap (λ b. cond b (at_token text) (x ∷ text)) f)
    go false false true e f g ih ir =
        ir ∙ sym (ap (λ d. past_feeds (cond d (after_run is_comment text) (x ∷ text))) g)
    go false false false e f g ih ir =
        sym (ap (λ d. past_feeds (cond d (after_run is_comment text) (x ∷ text))) g ∙
        ap (λ b. cond b (at_token text) (x ∷ text)) f)

-- a character at which spaces and gaps end
abbrev pub begins_space : ℕ → Bool
begins_space c = (is_blank c || c == 10) || c == 35

abbrev pub stands : Text → Bool
stands [] = false
stands (x ∷ text) = begins_space x.1

-- where none stands, nothing is skipped
pub spaces_still : (text : Text) → stands text ≡ false → after_spaces text ≡ text
spaces_still [] e = refl
spaces_still (x ∷ text) e = go (is_blank x.1) (x.1 == 10) (x.1 == 35) refl refl e
  where
    go : (a b c : Bool) → is_blank x.1 ≡ a → (x.1 == 35) ≡ c → ((a || b) || c) ≡ false
        → after_comment_by is_comment (cond a (after_blanks text) (x ∷ text)) ≡ x ∷ text
    go true b c e f g = absurd (false≢true (sym g))
    go false true c e f g = absurd (false≢true (sym g))
    go false false true e f g = absurd (false≢true (sym g))
    go false false false e f g = ap (λ d. cond d (after_run is_comment text) (x ∷ text)) f

pub gap_still : (text : Text) → stands text ≡ false → at_token text ≡ text
gap_still [] e = refl
gap_still (x ∷ text) e = go (is_blank x.1 || x.1 == 10) (x.1 == 35) e
  where
    go : (a c : Bool) → (a || c) ≡ false
        → cond a (at_token text) (cond c (after_gap_from is_comment true text) (x ∷ text)) ≡ x ∷ text
    go true c g = absurd (false≢true (sym g))
    go false true g = absurd (false≢true (sym g))
    go false false g = refl

pub past_still : (text : Text) → stands text ≡ false → past_feeds text ≡ text
past_still [] e = refl
past_still (x ∷ text) e = go (is_blank x.1) (x.1 == 10) e
  where
    go : (a b : Bool) → ((a || b) || (x.1 == 35)) ≡ false → cond b (at_token text) (x ∷ text) ≡ x ∷ text
    go true b g = absurd (false≢true (sym g))
    go false true g = absurd (false≢true (sym g))
    go false false g = refl

-- none stands after a gap
pub gap_stops : (inside : Bool) (text : Text) → stands (after_gap_from is_comment inside text) ≡ false
gap_stops true [] = refl
gap_stops false [] = refl
gap_stops true (x ∷ text) = go (x.1 == 10) (is_comment x.1) refl refl (gap_stops false text) (gap_stops true text)
  where
    no_comment : (x.1 == 10) ≡ false → is_comment x.1 ≡ false → begins_space x.1 ≡ false
    no_comment e f = by (x.1 == 32) (x.1 == 9) (x.1 == 35) refl refl refl
      where
        never : (d : ℕ) → is_comment d ≡ true → (x.1 == d) ≡ true → ⊥
        never d c h = false≢true (sym f ∙ ap is_comment (eqb-true x.1 d h) ∙ c)

        by : (a b c : Bool) → (x.1 == 32) ≡ a → (x.1 == 9) ≡ b → (x.1 == 35) ≡ c
            → (((a || b) || (x.1 == 10)) || c) ≡ false
        by true b c g h i = absurd (never 32 refl g)
        by false true c g h i = absurd (never 9 refl h)
        by false false true g h i = absurd (never 35 refl i)
        by false false false g h i = ap (λ b. b || false) e

    go : (a b : Bool) → (x.1 == 10) ≡ a → is_comment x.1 ≡ b → stands (at_token text) ≡ false
        → stands (after_gap_from is_comment true text) ≡ false
        → stands (cond a (at_token text) (cond b (after_gap_from is_comment true text) (x ∷ text))) ≡ false
    go true b e f ih ir = ih
    go false true e f ih ir = ir
    go false false e f ih ir = no_comment e f
gap_stops false (x ∷ text) = go (is_blank x.1 || x.1 == 10) (x.1 == 35) refl refl (gap_stops false text)
    (gap_stops true text)
  where
    go : (a b : Bool) → (is_blank x.1 || x.1 == 10) ≡ a → (x.1 == 35) ≡ b → stands (at_token text) ≡ false
        → stands (after_gap_from is_comment true text) ≡ false
        → stands (cond a (at_token text) (cond b (after_gap_from is_comment true text) (x ∷ text))) ≡ false
    go true b e f ih ir = ih
    go false true e f ih ir = ir
    go false false e f ih ir = (λ i. e i || f i)

-- a character that is no `#` stands after blanks as after spaces
pub spaces_are_blanks : (text : Text) {p c : ℕ} {next : Text} → StartsWith c (after_blanks text) p next
    → (c == 35) ≡ false → after_spaces text ≡ after_blanks text
spaces_are_blanks text {p = p} {c = c} {next = next} s e =
    ap (after_comment_by is_comment) s ∙ ap (λ b. cond b (after_run is_comment next) ((p, c) ∷ next)) e ∙ sym s

-- one that a comment may hold has none before it
pub blanks_are_spaces : (text : Text) {p c : ℕ} {next : Text} → StartsWith c (after_spaces text) p next
    → is_comment c ≡ true → after_blanks text ≡ after_spaces text
blanks_are_spaces text {p = p} {c = c} {next = next} s e = go (after_blanks text) s
  where
    go : (t : Text) → StartsWith c (after_comment_by is_comment t) p next → t ≡ after_comment_by is_comment t
    go [] s = refl
    go (x ∷ t) s = by (x.1 == 35) s
      where
        by : (b : Bool) → cond b (after_run is_comment t) (x ∷ t) ≡ (p, c) ∷ next
            → x ∷ t ≡ cond b (after_run is_comment t) (x ∷ t)
        by true s = absurd (false≢true (sym (run_stops is_comment t s) ∙ e))
        by false s = refl

-- the end of a line is part of a gap
pub ends_gap : {text next : Text} → EndsLine is_comment text next → at_token text ≡ at_token next
ends_gap (at_feed {text = text} s) = gap_past text ∙ ap past_feeds s
ends_gap (at_end {text = text} e) = gap_past text ∙ ap past_feeds e

-- Empty lines at the start are left out: where none is left, the text is over, or its first line has a token.
pub record Lead (text gap : Text) : Type 0 where
  pub line : Text
  pub holds : (rest : Text) (rs : Rows) → IsRows is_comment line rs rest → IsRows is_comment text rs rest
  pub front : ((line ≡ []) × (gap ≡ [])) ⊎ (after_spaces line ≡ gap)

before : {text next gap : Text} → EndsLine is_comment text next → Lead next gap → Lead text gap
before {text = text} e l = record {
  line = l.line;
  holds = λ rest rs x. line_before text e (l.holds rest rs x);
  front = l.front;
}

over_here : {text : Text} → EndsLine is_comment text [] → Lead text []
over_here {text = text} e = record { line = []; holds = λ rest rs x. line_before text e x; front = inl (refl, refl) }

-- inside a comment, or before one
abbrev Reached : Bool → Text → Text → Type 0
Reached true start text = after_spaces start ≡ after_run is_comment text
Reached false start text = after_blanks start ≡ after_blanks text

lead_from : (inside : Bool) (start text : Text) → Reached inside start text
    → Lead start (after_gap_from is_comment inside text)
lead_from true start [] e = over_here (at_end e)
lead_from false start [] e = over_here (at_end (ap (after_comment_by is_comment) e))
lead_from true start (x ∷ text) e =
    go (x.1 == 10) (is_comment x.1) refl refl e (lead_from false text text refl) (λ e. lead_from true start text e)
  where
    go : (a b : Bool) → (x.1 == 10) ≡ a → is_comment x.1 ≡ b
        → after_spaces start ≡ cond b (after_run is_comment text) (x ∷ text) → Lead text (at_token text)
        → (after_spaces start ≡ after_run is_comment text → Lead start (after_gap_from is_comment true text))
        → Lead start (cond a (at_token text) (cond b (after_gap_from is_comment true text) (x ∷ text)))
    go true true f g e ih ir = absurd (false≢true (sym (no_feed_comment x.1 f) ∙ g))
    go true false f g e ih ir =
        let feed : x.1 ≡ 10 = eqb-true x.1 10 f in
        before (at_feed {p = x.0} (e ∙ ap (λ (n : ℕ). (x.0, n) ∷ text) feed)) ih
    go false true f g e ih ir = ir e
    go false false f g e ih ir = record { line = start; holds = λ rest rs x. x; front = inr e }
lead_from false start (x ∷ text) e =
    go (is_blank x.1) (x.1 == 10) (x.1 == 35) refl refl e (λ e. lead_from false start text e)
    (lead_from false text text refl) (λ e. lead_from true start text e)
  where
    go : (a b c : Bool) → (x.1 == 10) ≡ b → (x.1 == 35) ≡ c
        → after_blanks start ≡ cond a (after_blanks text) (x ∷ text)
        → (after_blanks start ≡ after_blanks text → Lead start (at_token text))
        → Lead text (at_token text)
        → (after_spaces start ≡ after_run is_comment text → Lead start (after_gap_from is_comment true text))
        → Lead start (cond (a || b) (at_token text) (cond c (after_gap_from is_comment true text) (x ∷ text)))
    go true b c f g e on ih ir = on e
    go false true c f g e on ih ir =
        let feed : x.1 ≡ 10 = eqb-true x.1 10 f in
        before (at_feed {p = x.0} (ap (after_comment_by is_comment) e ∙
        ap (λ (n : ℕ). after_comment_by is_comment ((x.0, n) ∷ text)) feed)) ih
    go false false true f g e on ih ir =
        ir (ap (after_comment_by is_comment) e ∙ ap (λ d. cond d (after_run is_comment text) (x ∷ text)) g)
    go false false false f g e on ih ir = record {
      line = start;
      holds = λ rest rs x. x;
      front = inr (ap (after_comment_by is_comment) e ∙ ap (λ d. cond d (after_run is_comment text) (x ∷ text)) g);
    }

pub lead : (text : Text) → Lead text (at_token text)
lead text = lead_from false text text refl
