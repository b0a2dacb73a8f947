-- What the calls of a tokenizer make of the token that they took.
use Rattle.std.proofs.Common.{◌≡◌, ℕ, Bool, true, false, List, [], ◌∷◌, refl, ap, sym, ◌∙◌, subst, cond, ◌==◌}
use Rattle.std.specs.Borrow.{Bor}
use Rattle.std.specs.Cow.{cow_str_bytes}
use Rattle.std.specs.declared.alloc.Global.{Global}
use Rattle.std.specs.declared.borrow.CowStr.{CowStr}
use Rattle.std.proofs.lemmas.Bool.{ne_eqb}
use Rattle.basic_toml_tokens.specs.declared.span.Span.{Span}
use Rattle.basic_toml_tokens.specs.declared.token.Token.{Token}
use Rattle.basic_toml_tokens.specs.declared.token.Token.TheVariants.{String}
use Rattle.basic_toml_tokens.specs.Text.{Text, after_run, is_comment}
use Rattle.basic_toml_tokens.specs.TokenAt.{string}
use Rattle.basic_toml_tokens.specs.Reading.{Reading}
use Rattle.basic_toml_tokens.specs.Token.{lexeme_of, TokenAt}
use Rattle.basic_toml_tokens.specs.Tokenizer.{Takes, after_line}

pub multiline_key : (old new : Reading) (span : Span) (t : Token) (src : Bor (List ℕ)) (val : CowStr Global)
    (m : Bool) → Takes old new span t → t ≡ String src val m → m ≡ true
    → (source : List ℕ) × (value : List ℕ) × TokenAt old.text old.offset (string source value true) new.offset
multiline_key old new span t src val m h is lines = (
  src.now,
  cow_str_bytes val,
  subst (λ (r : Reading). TokenAt old.text old.offset (string src.now (cow_str_bytes val) true) r.offset) (sym h.after)
      (subst (λ (b : Bool). TokenAt old.text old.offset (string src.now (cow_str_bytes val) b) span.end) lines
      (subst (λ (u : Token). TokenAt old.text old.offset (lexeme_of u) span.end) is h.taken.stands)),
)

-- a comment holds no line feed
pub line_past_comment : (text : Text) → after_line (after_run is_comment text) ≡ after_line text
line_past_comment [] = refl
line_past_comment (x ∷ text) = go (is_comment x.1) refl (line_past_comment text)
  where
    go : (b : Bool) → is_comment x.1 ≡ b → after_line (after_run is_comment text) ≡ after_line text
        → after_line (cond b (after_run is_comment text) (x ∷ text)) ≡ cond (x.1 == 10) text (after_line text)
    go true e h =
        let other : (x.1 == 10) ≡ false = ne_eqb x.1 10 (λ k. let z : is_comment 10 ≡ true = rw k at e in cc) in
        h ∙ sym (ap (λ (b : Bool). cond b text (after_line text)) other)
    go false e h = refl

pub line_past_other : (text next : Text) (p c : ℕ) → text ≡ (p, c) ∷ next → (c ≡ 10 → ⊥)
    → after_line text ≡ after_line next
line_past_other text next p c e ne = ap after_line e ∙ ap (λ (b : Bool). cond b next (after_line next)) (ne_eqb c 10 ne)
