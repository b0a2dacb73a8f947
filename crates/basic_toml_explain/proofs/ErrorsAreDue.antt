-- The faults where reading stops are those that the text is due.
use Rattle.std.proofs.Common.{inl, inr, ◌≡◌, ℕ, ◌==◌, Bool, true, false, cond, List, [], ◌∷◌, length, arith, refl}
use Rattle.std.proofs.Common.{ap, sym, ◌∙◌, subst, Option, Some, None, Ok, Err, codes}
use Rattle.std.specs.Str.{IsUtf8, IsCharBoundary}
use Rattle.basic_toml_tokens.specs.declared.error.Error.{Error}
use Rattle.basic_toml_tokens.specs.declared.string.TokenStop.{TokenStop}
use Rattle.basic_toml_tokens.specs.declared.token.Token.{Token}
use Rattle.basic_toml_tokens.specs.Text.{Text, offset_in, folded, text_at, run, is_keylike}
use Rattle.basic_toml_tokens.specs.TokenAt.{Lexeme, period, IsToken, punctuation}
use Rattle.basic_toml_tokens.specs.Faults.{IsFault}
use Rattle.basic_toml_tokens.specs.Reading.{Reading}
use Rattle.basic_toml_tokens.specs.Descriptions.{description_of}
use Rattle.basic_toml_tokens.specs.Token.{lexeme_of, IsTaken}
use Rattle.basic_toml_tokens.specs.Scan.{IsFound}
use Rattle.basic_toml_tokens.proofs.StepIsTheFold.{text_end}
use Rattle.basic_toml_tokens.proofs.RestsArePartsOfText.{over_at_end}
use Rattle.basic_toml_tokens.proofs.TokenIsUnique.{token_same}
use Rattle.basic_toml_explain.specs.declared.key.Key.{Key}
use Rattle.basic_toml_explain.specs.declared.stop.End.{End}
use Rattle.basic_toml_explain.specs.declared.stop.Stop.{Stop}
use Rattle.basic_toml_explain.specs.declared.stop.Why.{Why}
use Rattle.basic_toml_explain.specs.declared.stop.Why.TheVariants.{Memory}
use Rattle.basic_toml_grammar.specs.Faults.{FaultKind, wanted, unexpected_eof, unquoted_string, Fault}
use Rattle.basic_toml_grammar.specs.Grammar.{is_wordlike}
use Rattle.basic_toml_grammar.specs.GrammarFaults as grammar
use Rattle.basic_toml_grammar.specs.GrammarFaults.{fault_at, Stands, is_key, IsNot, is_unquoted}
use Rattle.basic_toml_grammar.specs.Holes.{Hole, HoleInText, Fits, fits, behind_in_text}
use Rattle.basic_toml_grammar.specs.NumberFaults.{number_fault}
use Rattle.basic_toml_grammar.specs.NumberTokens.{behind_number, number_rest, IsWhole}
use Rattle.basic_toml_grammar.specs.Reader.{key_at, end_of}
use Rattle.basic_toml_grammar.specs.Viable as viable
use Rattle.basic_toml_grammar.specs.Viable.{RefusesToken, Want, want_word, mismatch_kind}
use Rattle.basic_toml_grammar.proofs.Viable.BehindValues.{WantedBehind, joint_is_due}
use Rattle.basic_toml_grammar.proofs.Viable.HolesAreDue as inside
use Rattle.basic_toml_grammar.proofs.Viable.HolesAtTheEnd as ends
use Rattle.basic_toml_grammar.proofs.Viable.MultilineKeys.{multiline_key_is_due}
use Rattle.basic_toml_grammar.proofs.Viable.NumbersAreDue.{number_is_due, token_is_due}
use Rattle.basic_toml_grammar.proofs.Viable.PeriodsAreDue.{period_is_due}
use Rattle.basic_toml_grammar.proofs.Viable.UnquotedIsDue.{unquoted_is_due}
use Rattle.basic_toml_explain.specs.Error.{token_fault}
use Rattle.basic_toml_explain.specs.Key as keyed
use Rattle.basic_toml_explain.specs.Key.{IsKeyStop, ReadsKey}
use Rattle.basic_toml_explain.specs.Number as number
use Rattle.basic_toml_explain.specs.Number.{is_joint, begins_word, IsNumberStop, IsWordStop, LacksValue}
use Rattle.basic_toml_explain.specs.Stop.{StopsInside}
use Rattle.basic_toml_explain.specs.StopHoles.{hole_behind, takes_bracket, NoValue, MissesSign, MissesBracket}
use Rattle.basic_toml_explain.specs.StopHoles.{MissesWord, StopsInText}
use Rattle.basic_toml_explain.specs.Explain.{end_word, IsWanting, found, refused, no_memory, IsOutside, IsDue}
use Rattle.basic_toml_explain.specs.Explain.{ExplainsWhy, Explains, Stops}
use Rattle.basic_toml_explain.proofs.TakenTokenStands.{offset_here}
use Rattle.basic_toml_explain.proofs.RefusedBehind.{fault_told, token_some}
use Rattle.basic_toml_explain.proofs.WhatBegins.{missing_fit, key_misfits, key_kind, value_misfits}
use Rattle.basic_toml_explain.proofs.WhatBegins.{value_kind, period_begins, word_begins, wordlike_first, joint_begins}
use Rattle.basic_toml_explain.proofs.WholeIsWritten.{written}

-- what the code finds at an offset
pub refusal_found : (bytes : List ℕ) (at : ℕ) (expected : List ℕ) (r : TokenStop) → IsFound bytes at (Err r)
    → IsWanting bytes at expected (token_fault r.error)
refusal_found bytes at expected r (inl f) = refused f.fault_is
refusal_found bytes at expected r (inr m) =
    subst (λ (e : Error). IsWanting bytes at expected (token_fault e)) (sym m.0) no_memory

pub token_found : (bytes : List ℕ) (at : ℕ) (expected w : List ℕ) (t : Token) (next : ℕ) (fault : Fault)
    → IsTaken bytes at t next → w ≡ description_of (lexeme_of t) → fault ≡ fault_at (wanted expected w) at
    → IsWanting bytes at expected fault
token_found bytes at expected w t next fault taken e f =
    subst (IsWanting bytes at expected) (sym (f ∙ ap (λ (v : List ℕ). fault_at (wanted expected v) at) e))
    (found (grammar.token taken.stands.token))

pub end_found : (bytes : List ℕ) (at : ℕ) (expected : List ℕ) (fault : Fault) → text_at bytes at ≡ []
    → fault ≡ fault_at (wanted expected (codes "eof")) at → IsWanting bytes at expected fault
end_found bytes at expected fault e f =
    subst (IsWanting bytes at expected) (sym f)
    (found (subst (λ (t : Text). Stands t None (codes "eof")) (sym e) grammar.end))

none_some : {A : Type 0} (x : A) → None ≡ Some x → ⊥
none_some x e = cc

module _ (bytes : List ℕ) (at : ℕ) (whole : IsUtf8 bytes) (boundary : IsCharBoundary bytes at) where
  abbrev DueAt : FaultKind → ℕ → Type 0
  DueAt kind n = viable.IsDue (folded bytes) (length bytes) (fault_at kind n)

  -- at a text, by its offset
  abbrev Due : FaultKind → Text → Type 0
  Due kind t = DueAt kind (offset_in (length bytes) t)

  placed : (kind : FaultKind) → (IsOutside bytes → Due kind (text_at bytes at)) → IsDue bytes (fault_at kind at)
  placed kind f = inr (λ outside. subst (DueAt kind) (offset_here bytes at whole boundary) (f outside))

  refused_due : {h : Hole} {rest : Text} {error : Error} → HoleInText (folded bytes) h (text_at bytes at)
      → IsFault (text_at bytes at) error rest → IsDue bytes (token_fault error)
  refused_due d f = inr (λ outside. inside.refused_is_due bytes whole outside d
      (record { error = _; rest = _; is_fault = f; names = fault_told f }))

  -- where another thing is wanted than what stands there
  wanting_due : {h : Hole} (expected : List ℕ) (fault : Fault) → HoleInText (folded bytes) h (text_at bytes at)
      → ((o : Option Lexeme) (w : List ℕ) → IsOutside bytes → Stands (text_at bytes at) o w
      → Due (wanted expected w) (text_at bytes at))
      → IsWanting bytes at expected fault → IsDue bytes fault
  wanting_due expected _ d due (found {o = o} {word = w} s) = placed (wanted expected w) (λ outside. due o w outside s)
  wanting_due expected _ d due (refused f) = refused_due d f
  wanting_due expected _ d due no_memory = inl refl

  -- a token stands there, or the end
  by_end : {h : Hole} (expected : List ℕ) (o : Option Lexeme) (w : List ℕ) (t : Text)
      → (HoleInText (folded bytes) h [] → Due (wanted expected (codes "eof")) [])
      → HoleInText (folded bytes) h t → t ≡ [] → Stands t o w → Due (wanted expected w) t
  by_end expected _ _ _ over d e grammar.end = over d
  by_end expected _ _ _ over d e (grammar.token t) = absurd (token_some t e)

  by_sign : {h : Hole} (expected : List ℕ) (o : Option Lexeme) (w : List ℕ) (t : Text)
      → ((x : ℕ × ℕ) (next : Text) → Stands (x ∷ next) o w → HoleInText (folded bytes) h (x ∷ next)
      → fits h x.1 ≡ false → Due (wanted expected w) (x ∷ next))
      → (HoleInText (folded bytes) h [] → Due (wanted expected (codes "eof")) [])
      → HoleInText (folded bytes) h t → (Fits h t → ⊥) → Stands t o w → Due (wanted expected w) t
  by_sign expected o w [] one over d none s = by_end expected o w [] over d refl s
  by_sign expected o w (x ∷ next) one over d none s = one x next s d (missing_fit none)

  pub equals_due : (fault : Fault) → MissesSign (HoleInText (folded bytes)) (λ t d. behind_in_text d) Hole.after_keys (text_at bytes at)
      → IsWanting bytes at (codes "an equals") fault → IsDue bytes fault
  equals_due fault m w = wanting_due (codes "an equals") fault m.hole (λ o word outside s.
      by_sign (codes "an equals") o word (text_at bytes at)
      (λ x next s d e. inside.equals_is_due bytes whole outside s d e)
      (λ d. ends.equals_at_end bytes whole outside d) m.hole m.missing s) w

  pub comma_due : (fault : Fault) → MissesSign (HoleInText (folded bytes)) (λ t d. behind_in_text d) Hole.after_field (text_at bytes at)
      → IsWanting bytes at (codes "a comma") fault → IsDue bytes fault
  comma_due fault m w = wanting_due (codes "a comma") fault m.hole (λ o word outside s.
      by_sign (codes "a comma") o word (text_at bytes at)
      (λ x next s d e. inside.field_end_is_due bytes whole outside s d e)
      (λ d. ends.field_end_at_end bytes whole outside d) m.hole m.missing s) w

  pub bracket_due : (fault : Fault) → MissesBracket (HoleInText (folded bytes)) (λ t d. behind_in_text d) (text_at bytes at)
      → IsWanting bytes at (codes "a right bracket") fault → IsDue bytes fault
  bracket_due fault m w = wanting_due (codes "a right bracket") fault m.misses.hole (λ o word outside s.
      go m.wanted m.takes o word outside m.misses.hole m.misses.missing s) w
    where
      go : (h : Hole) → takes_bracket h ≡ true → (o : Option Lexeme) (word : List ℕ) → IsOutside bytes
          → HoleInText (folded bytes) h (text_at bytes at) → (Fits h (text_at bytes at) → ⊥)
          → Stands (text_at bytes at) o word → Due (wanted (codes "a right bracket") word) (text_at bytes at)
      go Hole.after_header_keys e o word outside d none s =
          by_sign (codes "a right bracket") o word (text_at bytes at)
          (λ x next s d e. inside.header_end_is_due bytes whole outside s d e)
          (λ d. ends.header_end_at_end bytes whole outside d) d none s
      go Hole.second_bracket e o word outside d none s =
          by_sign (codes "a right bracket") o word (text_at bytes at)
          (λ x next s d e. inside.second_bracket_is_due bytes whole outside s d e)
          (λ d. ends.second_bracket_at_end bytes whole outside d) d none s
      go Hole.after_element e o word outside d none s =
          by_sign (codes "a right bracket") o word (text_at bytes at)
          (λ x next s d e. inside.element_end_is_due bytes whole outside s d e)
          (λ d. ends.element_end_at_end bytes whole outside d) d none s
      go Hole.key e o word outside d none s = cc
      go Hole.value e o word outside d none s = cc
      go Hole.after_keys e o word outside d none s = cc
      go Hole.after_field e o word outside d none s = cc
      go Hole.after_line e o word outside d none s = cc

  pub newline_due : (fault : Fault) → HoleInText (folded bytes) Hole.after_line (text_at bytes at)
      → end_of (text_at bytes at) ≡ None → IsWanting bytes at (codes "newline") fault → IsDue bytes fault
  newline_due fault d none w =
      wanting_due (codes "newline") fault d (λ o word outside s. go o word outside (text_at bytes at) d none s) w
    where
      goes_on : (x : ℕ × ℕ) (next : Text) → end_of (x ∷ next) ≡ None → (x.1 == 10) ≡ false
      goes_on x next e = by (x.1 == 10) e
        where
          by : (b : Bool) → cond b (Some next) None ≡ None → b ≡ false
          by false e = refl
          by true e = absurd (none_some next (sym e))

      go : (o : Option Lexeme) (word : List ℕ) → IsOutside bytes → (t : Text)
          → HoleInText (folded bytes) Hole.after_line t → end_of t ≡ None → Stands t o word
          → Due (wanted (codes "newline") word) t
      go o word outside [] d none s = cc
      go o word outside (x ∷ next) d none s =
          inside.line_end_is_due bytes whole outside s d (goes_on x next none)

  -- where a value is wanted and none begins
  value_at : (o : Option Lexeme) (w : List ℕ) (t : Text) → IsOutside bytes → HoleInText (folded bytes) Hole.value t
      → NoValue t → (t ≡ [] → ⊥) → Stands t o w → Due (wanted (codes "a value") w) t
  value_at _ _ _ outside d none some grammar.end = absurd (some refl)
  value_at _ _ _ outside d none some (grammar.token {source} {text} {rest} {l} t) = go text refl t d none
    where
      go : (u : Text) → text ≡ u → IsToken source u l rest → HoleInText (folded bytes) Hole.value u → NoValue u
          → Due (wanted (codes "a value") (description_of l)) text
      go [] e t d none = absurd (some e)
      go (x ∷ next) e t d none =
          let misfit : fits Hole.value x.1 ≡ false = value_misfits t none in
          subst (Due (wanted (codes "a value") (description_of l))) (sym e)
          (subst (λ (k : FaultKind). Due k (x ∷ next)) (value_kind (description_of l) t misfit)
          (inside.value_is_due bytes whole outside (grammar.token t) d misfit))

  pub value_due : (fault : Fault) → HoleInText (folded bytes) Hole.value (text_at bytes at)
      → NoValue (text_at bytes at) → (at ≡ length bytes → ⊥) → IsWanting bytes at (codes "a value") fault
      → IsDue bytes fault
  value_due fault d none more w =
      wanting_due (codes "a value") fault d (λ o word outside s. value_at o word (text_at bytes at) outside d none
      (λ e. more (omega (arith, over_at_end bytes at whole boundary e, boundary.0))) s) w

  pub over_due : HoleInText (folded bytes) Hole.value (text_at bytes at) → at ≡ length bytes
      → IsDue bytes (fault_at unexpected_eof at)
  over_due d e =
      let none : text_at bytes at ≡ [] = text_end bytes at (omega arith) in
      inr (λ outside. subst (DueAt unexpected_eof) (sym e)
      (ends.value_at_end bytes whole outside (subst (HoleInText (folded bytes) Hole.value) none d)))

  -- keys
  key_stop : (fault : Fault) (t : Text) → text_at bytes at ≡ t → HoleInText (folded bytes) Hole.key t
      → IsKeyStop (length bytes) t fault → IsDue bytes fault
  key_stop _ [] e d (keyed.multiline t) = absurd (token_some t refl)
  key_stop _ (x ∷ next) e d (keyed.multiline t) =
      inr (λ outside. multiline_key_is_due bytes whole outside {p = x.0} {c = x.1} d t)
  key_stop _ t e d (keyed.other {found = o} {word = w} s n) = inr (λ outside. go outside o w t d s n)
    where
      token_there : {source : List ℕ} {rest : Text} {l : Lexeme} → IsOutside bytes → (u : Text)
          → HoleInText (folded bytes) Hole.key u → IsToken source u l rest → is_key l ≡ false
          → Due (wanted (codes "a table key") (description_of l)) u
      token_there outside [] d t n = absurd (token_some t refl)
      token_there {l = l} outside (x ∷ next) d t n =
          subst (λ (k : FaultKind). Due k (x ∷ next)) (key_kind l (description_of l) n)
          (inside.key_is_due bytes whole outside (grammar.token t) d (key_misfits t n))

      go : IsOutside bytes → (o : Option Lexeme) (w : List ℕ) (u : Text) → HoleInText (folded bytes) Hole.key u
          → Stands u o w → IsNot is_key o → Due (wanted (codes "a table key") w) u
      go outside _ _ _ d grammar.end n = ends.key_at_end bytes whole outside d
      go outside _ _ u d (grammar.token t) n = token_there outside u d t n
  key_stop _ t e d (keyed.refused f) = inr (λ outside. inside.refused_is_due bytes whole outside d
      (record { error = _; rest = _; is_fault = f; names = fault_told f }))

  pub key_due : (old new : Reading) (fault : Fault) → old ≡ record { text = bytes; offset = at }
      → HoleInText (folded bytes) Hole.key (text_at bytes at) → ReadsKey old new (Err fault) → IsDue bytes fault
  key_due old new fault e d r =
      elim (subst (λ (o : Reading). ReadsKey o new (Err fault)) e r) [
        | inl m ↦ inl m
        | inr k ↦ key_stop fault (text_at bytes at) refl d k.1
      ]

  pub key_absent : (old new : Reading) (k : Key) → old ≡ record { text = bytes; offset = at }
      → key_at (text_at bytes at) ≡ None → ReadsKey old new (Ok k) → ⊥
  key_absent old new k e none r =
      let is = (subst (λ (o : Reading). ReadsKey o new (Ok k)) e r).0 in none_some _ (sym none ∙ is)

  -- words
  unquoted_due : (t : Text) → text_at bytes at ≡ t → HoleInText (folded bytes) Hole.value t
      → is_unquoted (run is_keylike t) ≡ true → IsDue bytes (fault_at unquoted_string (offset_in (length bytes) t))
  unquoted_due [] e d u = cc
  unquoted_due (x ∷ next) e d u =
      inr (λ outside. unquoted_is_due bytes whole outside {p = x.0} {c = x.1} d (word_begins x next u) u)

  -- a period or a plus behind a whole value
  wanted_behind : (e : End) (h : Hole) → h ≡ hole_behind e
      → (want : Want) × (sign : Option ℕ) × WantedBehind h want sign × (want_word want ≡ end_word e)
      × ((l : Lexeme) (w : List ℕ) → mismatch_kind want (Some l) w ≡ wanted (want_word want) w)
  wanted_behind End.Newline h same = (
    Want.newline,
    None,
    subst (λ (h : Hole). WantedBehind h Want.newline None) (sym same) WantedBehind.line,
    refl,
    λ l w. refl,
  )
  wanted_behind End.Bracket h same = (
    Want.right_bracket,
    Some 93,
    subst (λ (h : Hole). WantedBehind h Want.right_bracket (Some 93)) (sym same) WantedBehind.element,
    refl,
    λ l w. refl,
  )
  wanted_behind End.Comma h same = (
    Want.comma,
    Some 44,
    subst (λ (h : Hole). WantedBehind h Want.comma (Some 44)) (sym same) WantedBehind.field,
    refl,
    λ l w. refl,
  )

  behind_due : {source : List ℕ} {rest : Text} {l : Lexeme} (e : End) (x : ℕ × ℕ) (next stop : Text)
      (d : HoleInText (folded bytes) Hole.value (x ∷ next)) → behind_in_text d ≡ hole_behind e
      → is_wordlike x.1 ≡ true → IsWhole (length bytes) (x ∷ next) → number_rest (x ∷ next) ≡ stop
      → IsToken source stop l rest → is_joint l ≡ true → IsOutside bytes → Due (wanted (end_word e) (description_of l)) stop
  behind_due e x next [] d same w is ends t j outside = absurd (token_some t refl)
  behind_due {l = l} e x next (y ∷ s) d same w is ends t j outside =
      let b = wanted_behind e (behind_in_text d) same in
      let sign = joint_begins t j in
      subst (λ (v : List ℕ). Due (wanted v (description_of l)) (y ∷ s)) b.3
      (subst (λ (k : FaultKind). Due k (y ∷ s)) (b.4 l (description_of l))
      (joint_is_due bytes whole outside {x = x} {y = y} d w is ends sign.0 sign.1 (written is w ends) b.2
      (grammar.token t)))

  number_due : (e : End) (expected : List ℕ) (t : Text) (fault : Fault)
      (d : HoleInText (folded bytes) Hole.value t) → behind_in_text d ≡ hole_behind e → expected ≡ end_word e
      → (run is_wordlike t ≡ [] → ⊥) → (number_fault (length bytes) t ≡ None → IsWhole (length bytes) t)
      → IsNumberStop (length bytes) expected (number_fault (length bytes) t) (behind_number t) (number_rest t) fault
      → IsDue bytes fault
  number_due e expected [] fault d behind same some is n = absurd (some refl)
  number_due e expected (x ∷ next) _ d behind same some is (number.invalid f free) =
      inr (λ outside. number_is_due bytes whole outside {p = x.0} {c = x.1} d (wordlike_first x next some) f free)
  number_due e expected (x ∷ next) _ d behind same some is (number.refused f first) =
      inr (λ outside. token_is_due bytes whole outside {p = x.0} {c = x.1} d (wordlike_first x next some) f first)
  number_due e expected (x ∷ next) _ d behind same some is (number.goes_on {l = l} f t j) =
      inr (λ outside. subst (λ (v : List ℕ). Due (wanted v (description_of l)) (number_rest (x ∷ next))) (sym same)
      (behind_due e x next (number_rest (x ∷ next)) d behind (wordlike_first x next some) (is f) refl t j outside))
  number_due e expected (x ∷ next) _ d behind same some is number.no_memory = inl refl

  word_stop_due : (e : End) (expected : List ℕ) (fault : Fault) → expected ≡ end_word e
      → (m : MissesWord (HoleInText (folded bytes)) (λ t d. behind_in_text d) e (text_at bytes at))
      → IsWordStop (length bytes) expected (text_at bytes at) fault → IsDue bytes fault
  word_stop_due e expected fault same m (number.number is n) =
      number_due e expected (text_at bytes at) fault m.hole m.behind_it same m.some is n
  word_stop_due e expected _ same m (number.unquoted u) = unquoted_due (text_at bytes at) refl m.hole u
  word_stop_due e expected _ same m number.no_memory = inl refl

  pub word_due : (e : End) (expected : List ℕ) (old : Reading) (fault : Fault)
      → old ≡ record { text = bytes; offset = at } → expected ≡ end_word e
      → MissesWord (HoleInText (folded bytes)) (λ t d. behind_in_text d) e (text_at bytes at)
      → LacksValue expected old (Err fault) → IsDue bytes fault
  word_due e expected old fault same word_is m r =
      word_stop_due e expected fault word_is m (subst (λ (o : Reading). LacksValue expected o (Err fault)) same r)

  -- a word that is no number: a period begins it
  period_stands : {rest : Text} (o : Option Lexeme) (w : List ℕ) (t : Text) → Stands t o w
      → ((source : List ℕ) → IsToken source t period rest) → w ≡ description_of period
  period_stands _ _ _ grammar.end mine = absurd (token_some (mine []) refl)
  period_stands _ _ _ (grammar.token t) mine = ap description_of (token_same t (mine _)).0

  period_at : {source : List ℕ} {rest : Text} {l : Lexeme} (t : Text) → IsToken source t l rest
      → begins_word l ≡ false → (run is_wordlike t ≡ [] → ⊥) → IsOutside bytes → HoleInText (folded bytes) Hole.value t
      → (o : Option Lexeme) (w : List ℕ) → Stands t o w → Due (wanted (codes "a value") w) t
  period_at [] t other some outside d o w s = absurd (some refl)
  period_at (x ∷ next) t other some outside d o w s =
      let e : x.1 ≡ 46 = period_begins x next t other some in
      let starts : x ∷ next ≡ (x.0, 46) ∷ next = ap (λ (c : ℕ). (x.0, c) ∷ next) e in
      let called = period_stands o w (x ∷ next) s (λ source. punctuation starts refl) in
      subst (λ (v : List ℕ). Due (wanted (codes "a value") v) (x ∷ next)) (sym called)
      (subst (Due (wanted (codes "a value") (description_of period))) (sym starts)
      (period_is_due bytes whole outside (subst (HoleInText (folded bytes) Hole.value) starts d)))

  pub period_due : (expected : List ℕ) (old : Reading) (u : Unit {0}) (fault : Fault)
      → old ≡ record { text = bytes; offset = at } → LacksValue expected old (Ok u)
      → HoleInText (folded bytes) Hole.value (text_at bytes at) → (run is_wordlike (text_at bytes at) ≡ [] → ⊥)
      → IsWanting bytes at (codes "a value") fault → IsDue bytes fault
  period_due expected old u fault same r d some w =
      elim (subst (λ (o : Reading). LacksValue expected o (Ok u)) same r) [
        | inl over ↦ absurd (some (ap (run is_wordlike) over))
        | inr t ↦ wanting_due (codes "a value") fault d (λ o word outside s. period_at (text_at bytes at) t.2.token t.3
            some outside d o word s) w
      ]

-- by the reason of the stop
pub by_reason : (bytes : List ℕ) (stop : Stop) (w : Why) (fault : Fault) → stop.why ≡ w → (w ≡ Memory → ⊥)
    → StopsInside bytes stop → Stops bytes stop
    → (IsCharBoundary bytes stop.at → StopsInText (folded bytes) bytes w stop.at → ExplainsWhy bytes w stop.at fault)
    → Explains bytes stop fault
by_reason bytes stop w fault e other inside stands f =
    subst (λ (w : Why). ExplainsWhy bytes w stop.at fault) (sym e)
    (f (elim inside [ inl m ↦ absurd (other (sym e ∙ m)) | inr b ↦ b ])
    (subst (λ (w : Why). StopsInText (folded bytes) bytes w stop.at) e stands))
