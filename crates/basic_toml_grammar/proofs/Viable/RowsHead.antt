-- What a row, a value or keys begin with is no other sign, and the line does not end there.
use Rattle.std.proofs.Common.{◌≡◌, ℕ, ◌==◌, Bool, true, false, cond, List, [], ◌∷◌, Some, None, refl, ap, sym, ◌∙◌, eqb-true}
use Rattle.std.proofs.lemmas.Bool.{false≢true}
use Rattle.basic_toml_tokens.specs.Text.{Text, after_run, is_blank, is_comment, after_blanks}
use Rattle.basic_toml_grammar.specs.Sections.{Key, Raw}
use Rattle.basic_toml_grammar.specs.Grammar.{IsKeys, IsRow, after_comment_by}
use Rattle.basic_toml_grammar.specs.Holes.{begins_key}
use Rattle.basic_toml_grammar.specs.Reader.{char_at, line_end_at, end_of}
use Rattle.basic_toml_grammar.proofs.Grammar.GrammarIsUnambiguous.{Heads, row_heads, keys_heads}

pub other_char : (f : ℕ → Bool) (c d : ℕ) → f c ≡ true → f d ≡ false → (c == d) ≡ false
other_char f c d e n = go (c == d) refl
  where
    go : (b : Bool) → (c == d) ≡ b → (c == d) ≡ false
    go false h = h
    go true h = absurd (false≢true (sym n ∙ ap f (sym (eqb-true c d h)) ∙ e))

pub sign_missed : {f : ℕ → Bool} {text : Text} (d : ℕ) → Heads f text → f d ≡ false → char_at d text ≡ None
sign_missed {f = f} d h n =
    ap (char_at d) h.sign
    ∙ ap (λ (b : Bool). cond b (Some (h.offset, h.next)) None) (other_char f h.char d h.kind n)

-- what a row begins with
pub record RowBegins (text : Text) : Type 0 where
  pub bracket : char_at 91 (after_blanks text) ≡ None
  pub hash : char_at 35 (after_blanks text) ≡ None
  pub line_on : line_end_at text ≡ None

pub row_begins : {text rest : Text} {ks : List Key} {p : ℕ} {v : Raw} → IsRow is_comment (after_blanks text) ks p v rest
    → RowBegins text
row_begins {text = text} r = record {
  bracket = sign_missed {f = begins_key} 91 h refl;
  hash = sign_missed {f = begins_key} 35 h refl;
  line_on = ap (λ (t : Text). end_of (after_comment_by is_comment t)) h.sign
      ∙ ap (λ (b : Bool). end_of (cond b (after_run is_comment h.next) ((h.offset, h.char) ∷ h.next)))
      (other_char begins_key h.char 35 h.kind refl)
      ∙ ap (λ (b : Bool). cond b (Some h.next) None) (other_char begins_key h.char 10 h.kind refl);
}
  where
    h : Heads begins_key (after_blanks text)
    h = row_heads is_comment r

-- before keys no bracket stands
pub bracket_missed : {rest : Text} {ks : List Key} (next : Text) → IsKeys (after_blanks next) ks rest
    → char_at 91 next ≡ None
bracket_missed [] ks = refl
bracket_missed {rest = rest} {ks = ks} (x ∷ text) keys = go (is_blank x.1) refl keys
  where
    go : (b : Bool) → is_blank x.1 ≡ b → IsKeys (cond b (after_blanks text) (x ∷ text)) ks rest
        → char_at 91 (x ∷ text) ≡ None
    go true e k = ap (λ (b : Bool). cond b (Some (x.0, text)) None) (other_char is_blank x.1 91 e refl)
    go false e k = sign_missed {f = begins_key} 91 (keys_heads k) refl
