-- Keys, against the grammar.
use Rattle.std.proofs.Common.{◌⊎◌, inl, inr, ◌≡◌, ℕ, Bool, true, false, List, [], length, refl, ap, sym, ◌∙◌, subst}
use Rattle.std.proofs.Common.{Option, Some, None, codes, encode_utf8_all}
use Rattle.basic_toml_tokens.specs.declared.error.Error.{Error}
use Rattle.basic_toml_tokens.specs.declared.error.Error.TheVariants as error
use Rattle.basic_toml_tokens.specs.declared.span.Span.{Span}
use Rattle.basic_toml_tokens.specs.Text.{Text, offset_in, text_at, run, after_run, is_keylike}
use Rattle.basic_toml_tokens.specs.Strings.{Quotes, Opens, one_line, multiline, IsString}
use Rattle.basic_toml_tokens.specs.TokenAt.{Lexeme, whitespace, newline, comment, equals, period, comma, colon, plus}
use Rattle.basic_toml_tokens.specs.TokenAt.{left_brace, right_brace, left_bracket, right_bracket, keylike, string}
use Rattle.basic_toml_tokens.specs.TokenAt.{punctuation_of, IsToken, punctuation, blanks, word, remark, quoted}
use Rattle.basic_toml_tokens.specs.Descriptions.{description_of}
use Rattle.basic_toml_tokens.specs.Faults.{IsFault}
use Rattle.basic_toml_tokens.specs.Reading.{Reading, text_of}
use Rattle.basic_toml_tokens.specs.Tokenizer as calls
use Rattle.basic_toml_tokens.specs.Tokenizer.{Stops, IsKeyLike, IsMultilineKey, Wants, IsKeyTaken}
use Rattle.basic_toml_tokens.proofs.StepIsTheFold.{offset_is}
use Rattle.basic_toml_tokens.proofs.TokenIsUnique.{token_same, token_or_fault}
use Rattle.basic_toml_grammar.specs.Sections.{Key}
use Rattle.basic_toml_grammar.specs.Faults.{multiline_string_key, wanted, Fault}
use Rattle.basic_toml_explain.specs.Error.{token_fault, want_of_memory}
use Rattle.basic_toml_grammar.specs.GrammarFaults.{fault_at, is_key, Stands, token, end}
use Rattle.basic_toml_grammar.specs.Grammar as grammar
use Rattle.basic_toml_grammar.specs.Grammar.{IsKey, bare}
use Rattle.basic_toml_grammar.specs.Reader.{key_at}
use Rattle.basic_toml_explain.specs.Key as keyed
use Rattle.basic_toml_explain.specs.Key.{IsKeyStop}
use Rattle.basic_toml_grammar.proofs.Grammar.ReaderIsSound.{key_read}
use Rattle.basic_toml_grammar.proofs.Grammar.ReaderIsComplete.{key_found}
use Rattle.basic_toml_explain.proofs.TakenTokenStands.{code_is}
use Rattle.basic_toml_explain.proofs.WordStopIsDue.{offset_of_token}

-- no punctuation is a key
sign_no_key : (c : ℕ) (l : Lexeme) (key : List ℕ) → punctuation_of c ≡ Some l → calls.key_of l ≡ Some key → ⊥
sign_no_key c (keylike w) key e h = let z : punctuation_of 0 ≡ Some (keylike w) =
    subst (λ (d : ℕ). punctuation_of d ≡ Some (keylike w)) (code_is c (keylike w) e) e in cc
sign_no_key c (string source value m) key e h =
    let z : punctuation_of 0 ≡ Some (string source value m) =
    subst (λ (d : ℕ). punctuation_of d ≡ Some (string source value m)) (code_is c (string source value m) e) e in cc
sign_no_key c l key e h = cc

quoted_key : (source : List ℕ) (p : ℕ) (m : Bool) (value : List ℕ) (text rest : Text) (key : List ℕ)
    → IsString text p m value rest
    → calls.key_of (string source (encode_utf8_all value) m) ≡ Some key
    → IsKey text (record { offset = p; text = key }) rest
quoted_key source p false value text rest key s h =
    let same : encode_utf8_all value ≡ key = cc in
    subst (λ (k : List ℕ). IsKey text (record { offset = p; text = k }) rest) same (grammar.quoted s)
quoted_key source p true value text rest key s h = cc

-- a token that is a key, and a key as a token
key_token : {source : List ℕ} {text rest : Text} {l : Lexeme} (key : List ℕ) → IsToken source text l rest
    → calls.key_of l ≡ Some key → (p : ℕ) × IsKey text (record { offset = p; text = key }) rest
key_token key (punctuation {c = c} {l = l} at e) h = absurd (sign_no_key c l key e h)
key_token key (blanks at e) h = cc
key_token key (word {p} {c} {text} {next} at e) h =
    let same : run is_keylike text ≡ key = cc in (
      p,
      subst (λ (k : List ℕ). IsKey text (record { offset = p; text = k }) (after_run is_keylike text)) same
          (bare at e),
    )
key_token key (remark at) h = cc
key_token {source = source} key (quoted {p} {m} {value} {text} {rest} s) h =
    (p, quoted_key source p m value text rest key s h)

token_of_key : (source : List ℕ) {text rest : Text} {k : Key} → IsKey text k rest → (l : Lexeme)
    × IsToken source text l rest × (calls.key_of l ≡ Some k.text)
token_of_key source (bare at e) = (_, word at e, refl)
token_of_key source (grammar.quoted s) = (_, quoted s, refl)

opens_offset : {text rest : Text} {p : ℕ} {k : Quotes} (r : Reading) → text_of r ≡ text → Opens text p k rest
    → p ≡ r.offset
opens_offset r h (one_line {p} {d} {text} {next} at q n) = offset_is r.text r.offset (p, d) next (h ∙ at)
opens_offset r h (multiline {p} {d} {text} {next} at q n) = offset_is r.text r.offset (p, d) next (h ∙ at)

key_offset : {text rest : Text} {k : Key} (r : Reading) → text_of r ≡ text → IsKey text k rest → k.offset ≡ r.offset
key_offset r h (bare {p} {c} {text} {next} at e) = offset_is r.text r.offset (p, c) next (h ∙ at)
key_offset r h (grammar.quoted s) = opens_offset r h s.opens

pub key_there : (old new : Reading) (span : Span) (key : List ℕ) (owned : Bool) → IsKeyTaken old new span key owned
    → (key_at (text_of old) ≡ Some (record { offset = span.start; text = key }, text_of new)) × (new.text ≡ old.text)
key_there old new span key owned h =
    let (p, k) = key_token key h.stands.token h.key_is in
    let offset : p ≡ span.start = key_offset old refl k ∙ sym h.start in (
      key_found k ∙ ap (λ (n : ℕ). Some (record { offset = n; text = key }, text_at old.text span.end)) offset
          ∙ ap (λ (t : Text). Some (record { offset = span.start; text = key }, t)) (sym (ap text_of h.after)),
      ap (λ (r : Reading). r.text) h.after,
    )

-- where no key stands
no_key : (text : Text) → ((k : Key) (rest : Text) → IsKey text k rest → ⊥) → key_at text ≡ None
no_key text h = go (key_at text) refl
  where
    go : (o : Option (Key × Text)) → key_at text ≡ o → o ≡ None
    go None e = refl
    go (Some r) e = absurd (h r.0 r.1 (key_read text r e))

at_fault : {rest : Text} {error : Error} (text : Text) → IsFault text error rest → key_at text ≡ None
at_fault text f = no_key text (λ k rest h. token_or_fault (token_of_key [] h).1 f)

at_token : {source : List ℕ} {rest : Text} {l : Lexeme} (text : Text) → IsToken source text l rest
    → calls.key_of l ≡ None → key_at text ≡ None
at_token {source = source} {l = l} text t none = no_key text (λ k rest h.
    let (m, mine, is) = token_of_key source h in
    let z : None ≡ Some k.text = sym none ∙ ap calls.key_of (token_same t mine).0 ∙ is in
    cc)

-- what is no key
other_key : (l : Lexeme) → (IsKeyLike l → ⊥) → (is_key l ≡ false) × (calls.key_of l ≡ None)
other_key (whitespace w) h = (refl, refl)
other_key newline h = (refl, refl)
other_key (comment w) h = (refl, refl)
other_key equals h = (refl, refl)
other_key period h = (refl, refl)
other_key comma h = (refl, refl)
other_key colon h = (refl, refl)
other_key plus h = (refl, refl)
other_key left_brace h = (refl, refl)
other_key right_brace h = (refl, refl)
other_key left_bracket h = (refl, refl)
other_key right_bracket h = (refl, refl)
other_key (keylike w) h = absurd (h tt)
other_key (string source value m) h = absurd (h tt)

-- why there is none
abbrev pub KeyMissing : Reading → Fault → Type 0
KeyMissing old fault = (fault ≡ want_of_memory)
    ⊎ ((key_at (text_of old) ≡ None) × IsKeyStop (length old.text) (text_of old) fault)

stops_key : (old new : Reading) (error : Error) → Stops old new error → KeyMissing old (token_fault error)
stops_key old new error (inl h) =
    inr (at_fault (text_of old) h.1.fault_is, keyed.refused h.1.fault_is)
stops_key old new error (inr h) = inl (ap token_fault h.0)

multiline_key : (old new : Reading) (error : Error) → IsMultilineKey old new error → KeyMissing old (token_fault error)
multiline_key old new (error.MultilineStringKey at) (at_is, same, (source, value, t)) =
    let offset : offset_in (length old.text) (text_of old) ≡ at =
    offset_of_token (length old.text) old (text_of old) refl t.token ∙ sym at_is in
    inr (
      at_token (text_of old) t.token refl,
      subst (λ (n : ℕ). IsKeyStop (length old.text) (text_of old) (fault_at multiline_string_key n)) offset
          (keyed.multiline t.token),
    )
multiline_key old new _ h = absurd h

wants_key : (old new : Reading) (error : Error) → Wants old new (codes "a table key") IsKeyLike error
    → KeyMissing old (token_fault error)
wants_key old new (error.Wanted at expected found) (expected_is, inl (l, other, none)) =
    let (no_key_word, no_key_text) = other_key l none in
    let offset : offset_in (length old.text) (text_of old) ≡ at =
    offset_of_token (length old.text) old (text_of old) refl other.stands.token ∙ sym other.offset in
    let told : description_of l ≡ found.now = sym other.called in
    inr (
      at_token (text_of old) other.stands.token no_key_text,
      subst (λ (e : List ℕ). IsKeyStop (length old.text) (text_of old) (fault_at (wanted e found.now) at))
          (sym expected_is)
          (subst (λ (f : List ℕ). IsKeyStop (length old.text) (text_of old)
          (fault_at (wanted (codes "a table key") f) at)) told
          (subst (λ (n : ℕ). IsKeyStop (length old.text) (text_of old)
          (fault_at (wanted (codes "a table key") (description_of l)) n)) offset
          (keyed.other (token other.stands.token) no_key_word))),
    )
wants_key old new (error.Wanted at expected found) (expected_is, inr over) =
    let offset : offset_in (length old.text) (text_of old) ≡ at = ap (offset_in (length old.text)) over.over ∙
    sym over.offset in
    inr (
      ap key_at over.over,
      subst (λ (e : List ℕ). IsKeyStop (length old.text) (text_of old) (fault_at (wanted e found.now) at))
          (sym expected_is)
          (subst (λ (f : List ℕ). IsKeyStop (length old.text) (text_of old)
          (fault_at (wanted (codes "a table key") f) at)) (sym over.called)
          (subst (λ (n : ℕ). IsKeyStop (length old.text) (text_of old)
          (fault_at (wanted (codes "a table key") (codes "eof")) n)) offset
          (keyed.other (subst (λ (t : Text). Stands t None (codes "eof")) (sym over.over) end) tt))),
    )
wants_key old new _ h = absurd h

pub key_missing : (old new : Reading) (error : Error) → Stops old new error
    ⊎ (IsMultilineKey old new error ⊎ Wants old new (codes "a table key") IsKeyLike error)
    → KeyMissing old (token_fault error)
key_missing old new error (inl h) = stops_key old new error h
key_missing old new error (inr (inl h)) = multiline_key old new error h
key_missing old new error (inr (inr h)) = wants_key old new error h
