-- Texts of the same tokens are alike from their first token on, and so mean the same.
use Rattle.std.proofs.Common.{◌≡◌, ◌⊎◌, inl, inr, ℕ, ◌==◌, Bool, true, false, cond, List, [], ◌∷◌, refl, ap, sym}
use Rattle.std.proofs.Common.{◌∙◌, subst}
use Rattle.std.specs.Prelude.{◌&&◌}
use Rattle.std.proofs.lemmas.Bool.{eqb-true, or_cases, and_parts}
use Rattle.basic_toml_tokens.specs.Text.{Text, run, after_run}
use Rattle.basic_toml_tokens.specs.Strings.{is_quote}
use Rattle.basic_toml_value.specs.Data.{Data}
use Rattle.basic_toml_grammar.specs.Grammar.{is_wordlike}
use Rattle.basic_toml_grammar.specs.Document.{IsDocument}
use Rattle.basic_toml_grammar.specs.Respaced.{Token, newline, characters, quoted, after_spaces, at_token, is_bracket}
use Rattle.basic_toml_grammar.specs.Respaced.{joins, is_sign, begins_with_bracket, HasTokens, no_more, feeds, signs}
use Rattle.basic_toml_grammar.specs.Respaced.{string, Respaced}
use Rattle.basic_toml_grammar.specs.Statements.{RespacedMeansNothing}
use Rattle.basic_toml_grammar.proofs.Grammar.GrammarIsUnambiguous.{string_heads}
use Rattle.basic_toml_grammar.proofs.SameMeaning.OffsetsForgotten.{document_same}
use Rattle.basic_toml_grammar.proofs.Spacing.GapsSkipped.{apart, gap_past, stands, spaces_still, gap_still, gap_stops}
use Rattle.basic_toml_grammar.proofs.Spacing.FrontsAlike.{goes_on, Alike, both_over, both_feed, both_sign, both_string}
use Rattle.basic_toml_grammar.proofs.Spacing.FrontsAlike.{After, LinesAlike, is_seen, word_is_seen, word_is_sign}
use Rattle.basic_toml_grammar.proofs.Spacing.FrontsAlike.{word_joins, still}
use Rattle.basic_toml_grammar.proofs.Spacing.LinesAlike.{list_there}

-- tokens begin with a bracket
abbrev begins : List Token → Bool
begins [] = false
begins (newline ∷ tokens) = false
begins (characters [] ∷ tokens) = false
begins (characters (c ∷ joined) ∷ tokens) = c == 91
begins (quoted m v ∷ tokens) = false

bracket_is : {b : Bool} {text : Text} {tokens : List Token} → HasTokens b text tokens → stands text ≡ false
    → begins_with_bracket text ≡ begins tokens
bracket_is {text = text} (no_more e) s = ap begins_with_bracket (sym (gap_still text s) ∙ e)
bracket_is {text = text} (feeds f h) s = ap begins_with_bracket (sym (spaces_still text s) ∙ f)
bracket_is {text = text} (signs f e j h) s = ap begins_with_bracket (sym (spaces_still text s) ∙ f)
bracket_is {text = text} (string x h) s =
    let q = string_heads x in
    ap begins_with_bracket (sym (spaces_still text s) ∙ q.sign) ∙ apart is_quote q.char 91 q.kind refl

-- what joins a character joins those that it joins
joins_parts : (b : Bool) (c d : ℕ) → joins b c d ≡ true
    → ((is_wordlike c ≡ true) × (is_wordlike d ≡ true)) ⊎ ((is_bracket c ≡ true) × (d ≡ c))
joins_parts b c d e = go (or_cases _ _ e)
  where
    go : ((is_wordlike c && is_wordlike d) ≡ true) ⊎ (((is_bracket c && d == c) && b) ≡ true)
        → ((is_wordlike c ≡ true) × (is_wordlike d ≡ true)) ⊎ ((is_bracket c ≡ true) × (d ≡ c))
    go (inl h) = let r = and_parts _ _ h in inl (r.0, r.1)
    go (inr h) =
        let r = and_parts (is_bracket c && d == c) b h in
        let q = and_parts (is_bracket c) (d == c) r.0 in
        inr (q.0, eqb-true d c q.1)

joins_on : (b : Bool) (c d e : ℕ) → joins b c d ≡ true → joins b c e ≡ joins b d e
joins_on b c d e h = go (joins_parts b c d h)
  where
    go : ((is_wordlike c ≡ true) × (is_wordlike d ≡ true)) ⊎ ((is_bracket c ≡ true) × (d ≡ c))
        → joins b c e ≡ joins b d e
    go (inl w) = word_joins b c e w.0 ∙ sym (word_joins b d e w.1)
    go (inr w) = ap (λ (c : ℕ). joins b c e) (sym w.1)

bracket_seen : (c : ℕ) → is_bracket c ≡ true → (is_seen c ≡ true) × (is_sign c ≡ true)
bracket_seen c e = go (or_cases (c == 91) (c == 93) e)
  where
    go : ((c == 91) ≡ true) ⊎ ((c == 93) ≡ true) → (is_seen c ≡ true) × (is_sign c ≡ true)
    go (inl h) = (ap is_seen (eqb-true c 91 h), ap is_sign (eqb-true c 91 h))
    go (inr h) = (ap is_seen (eqb-true c 93 h), ap is_sign (eqb-true c 93 h))

joined_seen : (b : Bool) (c d : ℕ) → joins b c d ≡ true → (is_seen d ≡ true) × (is_sign d ≡ true)
joined_seen b c d h = go (joins_parts b c d h)
  where
    go : ((is_wordlike c ≡ true) × (is_wordlike d ≡ true)) ⊎ ((is_bracket c ≡ true) × (d ≡ c))
        → (is_seen d ≡ true) × (is_sign d ≡ true)
    go (inl w) = (word_is_seen d w.1, word_is_sign d w.1)
    go (inr w) = let r = bracket_seen c w.0 in (ap is_seen w.1 ∙ r.0, ap is_sign w.1 ∙ r.1)

-- after a character, the rest of its token and what follows
record Joined (b : Bool) (c : ℕ) (text other : Text) : Type 0 where
  joined : goes_on b c text ≡ goes_on b c other
  after : After b text other

on_sign : (b : Bool) (p q c : ℕ) (text other : Text) → is_seen c ≡ true → is_sign c ≡ true → Joined b c text other
    → After b ((p, c) ∷ text) ((q, c) ∷ other)
on_sign b p q c text other e f j =
    let here : stands ((p, c) ∷ text) ≡ false = still {next = text} {p = p} {c = c} refl e in
    let there : stands ((q, c) ∷ other) ≡ false = still {next = other} {p = q} {c = c} refl e in
    subst (λ t. Alike b t (after_spaces ((q, c) ∷ other))) (sym (spaces_still ((p, c) ∷ text) here))
    (subst (λ t. Alike b ((p, c) ∷ text) t) (sym (spaces_still ((q, c) ∷ other) there))
    (both_sign f j.joined j.after))

not_empty : (c : ℕ) (cs : List ℕ) → c ∷ cs ≡ [] → ⊥
not_empty c cs e = cc

module _ (f : ℕ → Bool) (b : Bool) where
  -- neither goes on
  ended : (c : ℕ) → ((d : ℕ) → f d ≡ joins b c d) → (text : Text) → run f text ≡ []
      → (goes_on b c text ≡ false) × (after_run f text ≡ text)
  ended c h [] e = (refl, refl)
  ended c h (x ∷ text) e = go (f x.1) refl e
    where
      go : (i : Bool) → f x.1 ≡ i → cond i (x.1 ∷ run f text) [] ≡ []
          → (joins b c x.1 ≡ false) × (cond i (after_run f text) (x ∷ text) ≡ x ∷ text)
      go true g e = absurd (not_empty x.1 (run f text) e)
      go false g e = (sym (h x.1) ∙ g, refl)

  joined_there : (c : ℕ) → ((d : ℕ) → f d ≡ joins b c d) → (text other : Text) → run f text ≡ run f other
      → After b (after_run f text) (after_run f other) → Joined b c text other
  joined_there c h [] other e a =
      let o = ended c h other (sym e) in
      record { joined = sym o.0; after = subst (λ t. After b [] t) o.1 a }
  joined_there c h (x ∷ text) other e a = go (f x.1) refl e a (λ h other e a. joined_there x.1 h text other e a)
    where
      go : (i : Bool) → f x.1 ≡ i → cond i (x.1 ∷ run f text) [] ≡ run f other
          → After b (cond i (after_run f text) (x ∷ text)) (after_run f other)
          → (((d : ℕ) → f d ≡ joins b x.1 d) → (other : Text) → run f text ≡ run f other
          → After b (after_run f text) (after_run f other) → Joined b x.1 text other)
          → Joined b c (x ∷ text) other
      go false g e a ih =
          let o = ended c h other (sym e) in
          record {
            joined = sym (h x.1) ∙ g ∙ sym o.0;
            after = subst (λ t. After b (x ∷ text) t) o.1 a;
          }
      go true g e a ih = by other e a
        where
          here : joins b c x.1 ≡ true
          here = sym (h x.1) ∙ g

          by : (other : Text) → x.1 ∷ run f text ≡ run f other → After b (after_run f text) (after_run f other)
              → Joined b c (x ∷ text) other
          by [] e a = absurd (not_empty x.1 (run f text) e)
          by (y ∷ other) e a = on (f y.1) refl e a
            where
              on : (i : Bool) → f y.1 ≡ i → x.1 ∷ run f text ≡ cond i (y.1 ∷ run f other) []
                  → After b (after_run f text) (cond i (after_run f other) (y ∷ other))
                  → Joined b c (x ∷ text) (y ∷ other)
              on false k e a = absurd (not_empty x.1 (run f text) e)
              on true k e a =
                  let l : x.1 ∷ run f text ≡ y.1 ∷ run f other = e in
                  let same : x.1 ≡ y.1 = cc in
                  let rest : run f text ≡ run f other = cc in
                  let s = joined_seen b c x.1 here in
                  let j = ih (λ d. h d ∙ joins_on b c x.1 d here) other rest a in
                  record {
                    joined = ap (joins b c) same;
                    after = subst (λ (d : ℕ). After b (x ∷ text) ((y.0, d) ∷ other)) same
                        (on_sign b x.0 y.0 x.1 text other s.0 s.1 j);
                  }

fronts_alike : {b : Bool} {text other : Text} {tokens : List Token} → HasTokens b text tokens → HasTokens b other tokens
    → After b text other
fronts_alike {text = text} {other = other} (no_more e) (no_more f) =
    both_over (sym (gap_past text) ∙ e) (sym (gap_past other) ∙ f)
fronts_alike {b = b} {text = text} {other = other} (feeds {p = p} {next = n} {token = token} {tokens = tokens} s h)
    (feeds {p = q} {next = m} t k) =
    let same : begins_with_bracket (at_token m) ≡ begins_with_bracket (at_token n) =
    bracket_is k (gap_stops false m) ∙ sym (bracket_is h (gap_stops false n)) in
    let x = fronts_alike h (subst (λ b. HasTokens b (at_token m) (token ∷ tokens)) same k) in
    let y : LinesAlike n m =
    subst (λ t. Alike (begins_with_bracket (at_token n)) t (at_token m)) (spaces_still (at_token n) (gap_stops false n))
    (subst (λ t. Alike (begins_with_bracket (at_token n)) (after_spaces (at_token n)) t)
    (spaces_still (at_token m) (gap_stops false m)) x) in
    subst (λ u. Alike b u (after_spaces other)) (sym s)
    (subst (λ u. Alike b ((p, 10) ∷ n) u) (sym t) (both_feed y))
fronts_alike {b = b} {text = text} {other = other} (signs {p = p} {c = c} {next = n} s e i h)
    (signs {p = q} {next = m} t f j k) =
    let x = joined_there (joins b c) b c (λ d. refl) n m (i ∙ sym j) (fronts_alike h k) in
    subst (λ u. Alike b u (after_spaces other)) (sym s)
    (subst (λ u. Alike b ((p, c) ∷ n) u) (sym t) (both_sign e x.joined x.after))
fronts_alike (string s h) (string t k) = both_string s t (fronts_alike h k)

lines_alike : {text other : Text} → Respaced text other → LinesAlike text other
lines_alike {text = text} {other = other} r =
    let same : begins_with_bracket (at_token other) ≡ begins_with_bracket (at_token text) =
    bracket_is r.others (gap_stops false other) ∙ sym (bracket_is r.its (gap_stops false text)) in
    let x = fronts_alike r.its (subst (λ b. HasTokens b (at_token other) r.tokens) same r.others) in
    subst (λ t. Alike (begins_with_bracket (at_token text)) t (at_token other))
    (spaces_still (at_token text) (gap_stops false text))
    (subst (λ t. Alike (begins_with_bracket (at_token text)) (after_spaces (at_token text)) t)
    (spaces_still (at_token other) (gap_stops false other)) x)

document_there : {text other : Text} {tree : Data} → Respaced text other → IsDocument text tree → IsDocument other tree
document_there {other = other} r d =
    let x = list_there other d.grammar (lines_alike r) in
    record { sections = x.sections; grammar = x.grammar; means = sym (document_same x.same) ∙ d.means }

turned : {text other : Text} → Respaced text other → Respaced other text
turned r = record { tokens = r.tokens; its = r.others; others = r.its }

pub respaced_means_nothing : RespacedMeansNothing
respaced_means_nothing text other tree r = (document_there r, document_there (turned r))
