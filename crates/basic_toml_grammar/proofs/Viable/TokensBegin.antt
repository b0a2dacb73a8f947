-- What a token begins with is a line feed, or a comment may hold it.
use Rattle.std.proofs.Common.{◌≡◌, ◌⊎◌, inl, inr, ℕ, ◌==◌, Bool, true, false, cond, List, ◌∷◌, Some, None}
use Rattle.std.proofs.Common.{refl, ap, sym, ◌∙◌, eqb-true}
use Rattle.std.proofs.lemmas.Bool.{or_left, or_right, or_cases, false≢true}
use Rattle.basic_toml_tokens.specs.Text.{Text, is_keylike, is_comment}
use Rattle.basic_toml_tokens.specs.TokenAt as token
use Rattle.basic_toml_tokens.specs.TokenAt.{Lexeme, IsToken, punctuation_of}
use Rattle.basic_toml_grammar.proofs.Grammar.EndChangesNothing.{in_gap}
use Rattle.basic_toml_grammar.proofs.Grammar.GrammarCarried.{element_seen}
use Rattle.basic_toml_grammar.proofs.Grammar.GrammarIsUnambiguous.{sign_same, string_heads}

abbrev pub in_comment : ℕ → Bool
in_comment c = in_gap is_comment c

differs : (c d : ℕ) → in_comment c ≡ false → in_comment d ≡ true → (c == d) ≡ false
differs c d n e = go (c == d) refl
  where
    go : (b : Bool) → (c == d) ≡ b → (c == d) ≡ false
    go false h = h
    go true h = absurd (false≢true (sym n ∙ ap in_comment (eqb-true c d h) ∙ e))

skipped : {A : Type 0} {b : Bool} (x y : A) → b ≡ false → cond b x y ≡ y
skipped x y e = ap (λ (b : Bool). cond b x y) e

no_sign : (c : ℕ) → in_comment c ≡ false → punctuation_of c ≡ None
no_sign c n =
    skipped _ _ (differs c 10 n refl) ∙ skipped _ _ (differs c 61 n refl) ∙ skipped _ _ (differs c 46 n refl)
    ∙ skipped _ _ (differs c 44 n refl) ∙ skipped _ _ (differs c 58 n refl) ∙ skipped _ _ (differs c 43 n refl)
    ∙ skipped _ _ (differs c 123 n refl) ∙ skipped _ _ (differs c 125 n refl) ∙ skipped _ _ (differs c 91 n refl)
    ∙ skipped _ _ (differs c 93 n refl)

pub keylike_seen : (c : ℕ) → is_keylike c ≡ true → is_comment c ≡ true
keylike_seen c w = element_seen c (or_left _ _ (or_left _ _ (or_left _ _ (or_left _ _ w))))

blank_in : (c : ℕ) → ((c == 32) ≡ true) ⊎ ((c == 9) ≡ true) → in_comment c ≡ true
blank_in c (inl e) = ap in_comment (eqb-true c 32 e)
blank_in c (inr e) = ap in_comment (eqb-true c 9 e)

quote_in : (c : ℕ) → ((c == 34) ≡ true) ⊎ ((c == 39) ≡ true) → in_comment c ≡ true
quote_in c (inl e) = ap in_comment (eqb-true c 34 e)
quote_in c (inr e) = ap in_comment (eqb-true c 39 e)

pub token_begins : {source : List ℕ} {p c : ℕ} {next rest : Text} {l : Lexeme} → IsToken source ((p, c) ∷ next) l rest
    → in_comment c ≡ true
token_begins {c = c} (token.punctuation {c = k} {l = l} s e) =
    ap in_comment (sign_same {c = c} refl s).1 ∙ go (in_comment k) refl
  where
    go : (b : Bool) → in_comment k ≡ b → in_comment k ≡ true
    go true h = h
    go false h = let no : None ≡ Some l = sym (no_sign k h) ∙ e in cc
token_begins {c = c} (token.blanks {c = k} s w) =
    ap in_comment (sign_same {c = c} refl s).1 ∙ blank_in k (or_cases (k == 32) (k == 9) w)
token_begins {c = c} (token.word {c = k} s w) =
    ap in_comment (sign_same {c = c} refl s).1 ∙ or_right (k == 10) (is_comment k) (keylike_seen k w)
token_begins {c = c} (token.remark s) = ap in_comment (sign_same {c = c} refl s).1
token_begins {c = c} (token.quoted s) =
    let h = string_heads s in
    ap in_comment (sign_same {c = c} refl h.sign).1
    ∙ quote_in h.char (or_cases (h.char == 34) (h.char == 39) h.kind)
