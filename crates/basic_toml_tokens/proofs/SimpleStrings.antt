-- Strings on one line in which each character stands for itself, against the run of characters after the delimiter.
use Rattle.std.proofs.Common.{◌≡◌, ℕ, ◌≤◌, ◌==◌, Bool, true, false, cond, List, [], ◌∷◌, length, get_or, refl, ap}
use Rattle.std.proofs.Common.{sym, ◌∙◌, subst, inl, inr}
use Rattle.std.specs.Str.{IsUtf8}
use Rattle.std.proofs.lemmas.Bool.{or_cases, eqb-true}
use Rattle.basic_toml_tokens.specs.declared.quote.Quote.{Quote}
use Rattle.basic_toml_tokens.specs.Text.{Text, StartsWith, text_at, after_run}
use Rattle.basic_toml_tokens.specs.Strings.{Quotes, is_quote, is_plain, Closes, one, several}
use Rattle.basic_toml_tokens.specs.Quote.{kind_of}
use Rattle.basic_toml_tokens.specs.Reading.{IsRun}
use Rattle.basic_toml_tokens.specs.String.{IsOpen, IsVerbatim, AreThemselves}
use Rattle.basic_toml_tokens.specs.String as string
use Rattle.basic_toml_tokens.proofs.StepIsTheFold.{text_end}
use Rattle.basic_toml_tokens.proofs.TokenIsUnique.{Opening, opens_is}
use Rattle.basic_toml_tokens.proofs.OffsetsTellTheText.{first_at}

-- no delimiter stands for itself
not_plain : (d : ℕ) → is_quote d ≡ true → is_plain d d ≡ false
not_plain d q = elim (or_cases (d == 34) (d == 39) q) [
  | inl e ↦ rw (eqb-true d 34 e) refl
  | inr e ↦ rw (eqb-true d 39 e) refl
]

-- a run of plain characters
run_of : (d : ℕ) (text : Text) → AreThemselves d text (after_run (is_plain d) text)
run_of d [] = string.none
run_of d (x ∷ text) = go (is_plain d x.1) refl (run_of d text)
  where
    go : (b : Bool) → is_plain d x.1 ≡ b → AreThemselves d text (after_run (is_plain d) text)
        → AreThemselves d (x ∷ text) (cond b (after_run (is_plain d) text) (x ∷ text))
    go true e more = string.one refl e more
    go false e more = string.none

-- up to a delimiter they are the longest run
longest : {d p : ℕ} {text closer rest : Text} → is_quote d ≡ true → AreThemselves d text closer
    → StartsWith d closer p rest → after_run (is_plain d) text ≡ closer
longest {d} {p} {text} {closer} {rest} q string.none s =
    ap (after_run (is_plain d)) s ∙ ap (λ b. cond b (after_run (is_plain d) rest) ((p, d) ∷ rest)) (not_plain d q) ∙ sym s
longest {d} {p} {text} {closer} {rest} q (string.one {p = k} {c = c} {next = next} at plain more) s =
    ap (after_run (is_plain d)) at ∙ ap (λ b. cond b (after_run (is_plain d) next) ((k, c) ∷ next)) plain ∙
    longest q more s

closes_one : {k : Quotes} {text rest : Text} {tail : List ℕ} → k.multiline ≡ false → Closes k text tail rest
    → (p : ℕ) × StartsWith k.delimiter text p rest
closes_one one_line (one {p = p} line at) = (p, at)
closes_one one_line (several lines count enough) = let z : true ≡ false = sym lines ∙ one_line in cc

-- it opens as the string there does
module _ (bytes : List ℕ) (start body : ℕ) (quote : Quote) (o : IsOpen bytes start quote body) (rest : Text)
    (v : IsVerbatim (text_at bytes start) start rest) where
  same_opening : ◌≡◌ {A = Opening} (record { offset = start; kind = v.kind; body = v.body })
      (record { offset = start; kind = kind_of quote; body = text_at bytes body })
  same_opening = sym (opens_is v.opens) ∙ opens_is o.opens

  pub no_lines : quote.multiline ≡ false
  no_lines = sym (ap (λ (o : Opening). o.kind.multiline) same_opening) ∙ v.one_line

  same_delimiter : v.kind.delimiter ≡ quote.delimiter
  same_delimiter = ap (λ (o : Opening). o.kind.delimiter) same_opening

  -- its characters are the longest run, which ends before the delimiter
  pub ends_there : (last : ℕ) → IsRun (is_plain quote.delimiter) bytes body last
      → text_at bytes last ≡ (v.offset, quote.delimiter) ∷ rest
  ends_there last run =
      let q : is_quote v.kind.delimiter ≡ true = ap is_quote same_delimiter ∙ o.quoted in
      run.rest ∙ ap (after_run (is_plain quote.delimiter)) (sym (ap (λ (o : Opening). o.body) same_opening))
      ∙ ap (λ (d : ℕ). after_run (is_plain d) v.body) (sym same_delimiter) ∙ longest q v.characters v.closes ∙ v.closes
      ∙ ap (λ (d : ℕ). (v.offset, d) ∷ rest) same_delimiter

module _ (bytes : List ℕ) (start body last : ℕ) (quote : Quote) (o : IsOpen bytes start quote body)
    (run : IsRun (is_plain quote.delimiter) bytes body last) where
  pub verbatim_closes : (end : ℕ) (tail : List ℕ) → quote.multiline ≡ false
      → Closes (kind_of quote) (text_at bytes last) tail (text_at bytes end)
      → IsVerbatim (text_at bytes start) start (text_at bytes end)
  verbatim_closes end tail one_line closes = record {
    kind = kind_of quote;
    body = text_at bytes body;
    opens = o.opens;
    one_line = one_line;
    closer = text_at bytes last;
    characters = subst (λ (t : Text). AreThemselves quote.delimiter (text_at bytes body) t) (sym run.rest)
        (run_of quote.delimiter (text_at bytes body));
    offset = (closes_one one_line closes).0;
    closes = (closes_one one_line closes).1;
  }

  pub not_at_the_end : length bytes ≤ last → (rest : Text) → IsVerbatim (text_at bytes start) start rest → ⊥
  not_at_the_end over rest v =
      let z : (v.offset, quote.delimiter) ∷ rest ≡ [] = sym (ends_there bytes start body quote o rest v last run) ∙ text_end bytes last over in cc

  pub not_elsewhere : IsUtf8 bytes → (get_or bytes last 0 ≡ quote.delimiter → ⊥) → (rest : Text)
      → IsVerbatim (text_at bytes start) start rest → ⊥
  not_elsewhere whole other rest v =
      other (first_at bytes last whole run.boundary quote.delimiter v.offset rest (ends_there bytes start body quote o rest v last run) o.quoted).1
