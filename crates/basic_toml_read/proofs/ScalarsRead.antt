-- Keys and strings at an offset, against the grammar.
use Rattle.basic_toml_read.proofs.Common.{inl, inr, ◌≡◌, ℕ, Bool, List, [], ◌∷◌, length, refl, ap, sym, ◌∙◌, arith}
use Rattle.basic_toml_read.proofs.Common.{Option, Some, None, Result, Ok, Err, IsUtf8, IsCharBoundary, nil_from_length}
use Rattle.basic_toml_read.proofs.Common.{encodes-IsAscii, Text, text_at, run, after_run, is_keylike, between, IsRun}
use Rattle.basic_toml_read.proofs.Common.{length-between, offset_is, and_then, string_at, key_at, string_value_at, Stop}
use Rattle.basic_toml_read.proofs.Common.{Why, Memory, Keyed, KeyText, key_text_bytes, ReadsKeyAt}
use Rattle.basic_toml_grammar.specs.Sections as sections
use Rattle.basic_toml_grammar.specs.Reader as reader
use Rattle.std.proofs.Common.{encode_utf8_all}
use Rattle.basic_toml_grammar.specs.Reader.{bare_key_at, quoted_key}
use Rattle.basic_toml_read.specs.StopsAt.{why_of, IsKeyOf}
use Rattle.basic_toml_tokens.specs.declared.error.Error.{Error}
use Rattle.basic_toml_tokens.specs.declared.error.Error.TheVariants.{OutOfMemory}
use Rattle.basic_toml_tokens.specs.declared.string.Quoted.{Quoted}
use Rattle.basic_toml_tokens.specs.declared.string.TokenStop.{TokenStop}
use Rattle.basic_toml_tokens.specs.Strings.{IsString}
use Rattle.basic_toml_tokens.specs.Copies.{is_copied}
use Rattle.basic_toml_tokens.specs.String.{IsQuoted, IsRefused}
use Rattle.basic_toml_tokens.proofs.TokenIsUnique.{no_break}
use Rattle.basic_toml_grammar.proofs.Grammar.StringsAreRead.{string_found, string_read}
use Rattle.basic_toml_grammar.proofs.Grammar.CopiesAgree.{copies_agree}
use Rattle.basic_toml_explain.proofs.TakenTokenStands.{keylike_small}
use Rattle.basic_toml_read.proofs.GoesOn.{same_found, then_from}
use Rattle.basic_toml_read.proofs.WordIsRead.{run_small}

-- the bytes of a bare key
pub bare_text : (bytes : List ℕ) (at end : ℕ) → IsRun is_keylike bytes at end
    → between bytes at end ≡ run is_keylike (text_at bytes at)
bare_text bytes at end r = sym r.spelled ∙
    encodes-IsAscii (run is_keylike (text_at bytes at)) (run_small is_keylike keylike_small (text_at bytes at))

pub no_bare : (bytes : List ℕ) (at end : ℕ) → IsRun is_keylike bytes at end → at ≡ end
    → run is_keylike (text_at bytes at) ≡ []
no_bare bytes at end r e = sym (bare_text bytes at end r) ∙
    nil_from_length (between bytes at end) (omega (arith, length-between bytes at end r.forward r.boundary.0))

bare_found : (text : Text) (p : ℕ) → ((x : ℕ × ℕ) (t : Text) → text ≡ x ∷ t → x.0 ≡ p) → (run is_keylike text ≡ [] → ⊥)
    → key_at text ≡ Some (record { offset = p; text = run is_keylike text }, after_run is_keylike text)
bare_found [] p offset some = absurd (some refl)
bare_found (x ∷ text) p offset some =
    grind (arith, offset x text refl, some)

pub bare_key : (bytes : List ℕ) (at end : ℕ) (key : KeyText) → IsRun is_keylike bytes at end → (at ≡ end → ⊥)
    → key_text_bytes key ≡ between bytes at end
    → ReadsKeyAt bytes at (Ok (record { key = key; end = end }))
bare_key bytes at end key r some e =
    let text_is : run is_keylike (text_at bytes at) ≡ key_text_bytes key = sym (bare_text bytes at end r) ∙ sym e in (
      rw (← text_is, r.rest) (bare_found (text_at bytes at) at (λ x t h. offset_is bytes at x t h)
          (λ h. some_run (ap length (bare_text bytes at end r ∙ h)))),
      r.boundary,
      omega (arith, r.forward),
    )
  where
    some_run : length (between bytes at end) ≡ 0 → ⊥
    some_run h = some (omega (arith, length-between bytes at end r.forward r.boundary.0, r.forward))

-- where no bare key stands
no_bare_key : (text : Text) → run is_keylike text ≡ [] → bare_key_at text ≡ None
no_bare_key [] e = refl
no_bare_key (x ∷ text) e =
    grind (arith, e)

pub key_by_string : (text : Text) (o : Option reader.Quoted) → run is_keylike text ≡ [] → string_at text ≡ o
    → key_at text ≡ and_then o quoted_key
key_by_string text o e s = rw (no_bare_key text e, s) refl

-- strings of the code
pub string_key : (bytes : List ℕ) (at : ℕ) (q : Quoted) (result : Result Keyed Stop)
    → run is_keylike (text_at bytes at) ≡ [] → IsQuoted bytes at q → IsKeyOf q at result → ReadsKeyAt bytes at result
string_key bytes at q (Ok k) none s (one_line, same, end) = rw end (
  key_by_string (text_at bytes at) _ none (string_found s.string) ∙ rw (one_line, same, s.spelled) refl,
  s.boundary,
  s.forward,
)
string_key bytes at q (Err stop) none s (inl (lines, is)) = rw is (
  key_by_string (text_at bytes at) _ none (string_found s.string) ∙ rw lines refl,
  λ _. refl,
)
string_key bytes at q (Err stop) none s (inr (is, _, _)) = rw is (tt, λ h. cc)

why_by : (Q : Why → Type 0) (why : Why) (e : Error) → Q Memory → ((e ≡ OutOfMemory → ⊥) → Q why) → Q (why_of e why)
why_by Q why OutOfMemory m k = m
why_by Q why e m k = k (λ h. cc)

-- where a string was refused
refused_none : (bytes : List ℕ) (at : ℕ) (r : TokenStop) → IsRefused bytes at r → (r.error ≡ OutOfMemory → ⊥)
    → string_at (text_at bytes at) ≡ None
refused_none bytes at r (inr m) other = absurd (other m.0)
refused_none bytes at r (inl b) other =
    same_found (string_at (text_at bytes at)) None
    (λ s e. absurd (no_break (string_read (text_at bytes at) s e) b.0)) (λ s e. cc)

pub refused_by : (bytes : List ℕ) (at : ℕ) (r : TokenStop) (Q : Why → Type 0) (why : Why) → IsRefused bytes at r
    → Q Memory → (string_at (text_at bytes at) ≡ None → Q why) → Q (why_of r.error why)
refused_by bytes at r Q why is m k = why_by Q why r.error m (λ other. k (refused_none bytes at r is other))

module _ (bytes : List ℕ) (at : ℕ) (whole : IsUtf8 bytes) (here : IsCharBoundary bytes at) where
  abbrev pub value_to : ℕ → List ℕ → Bool → reader.Valued
  value_to end value copied =
      record { offset = at; value = sections.Raw.string value copied; rest = text_at bytes end }

  pub string_to : (end : ℕ) {m : Bool} {value body : List ℕ} {copied : Bool} → IsCharBoundary bytes end
      → IsString (text_at bytes at) at m value (text_at bytes end) → body ≡ encode_utf8_all value
      → copied ≡ is_copied m (between bytes at end)
      → string_value_at (text_at bytes at) ≡ Some (value_to end body copied)
  string_to end {m = m} {value = value} there s spelled is =
      then_from _ (string_found s) ∙ rw (spelled, is ∙ copies_agree bytes at end _ m value whole here there s) refl
