-- A period or a plus after a word.
use Rattle.std.proofs.Common.{inl, inr, ◌≡◌, ℕ, ◌==◌, ◌||◌, Bool, true, false, cond, List}
use Rattle.std.proofs.Common.{[], ◌∷◌, refl, ap, sym, ◌∙◌}
use Rattle.std.proofs.lemmas.Bool.{eqb-true, or_cases}
use Rattle.basic_toml_tokens.specs.declared.span.Span.{Span}
use Rattle.basic_toml_tokens.specs.declared.token.Token.{Token}
use Rattle.basic_toml_tokens.specs.Text.{Text, run, is_keylike}
use Rattle.basic_toml_tokens.specs.TokenAt.{Lexeme, period, plus, punctuation_of, IsToken, punctuation}
use Rattle.basic_toml_tokens.specs.Reading.{Reading, text_of}
use Rattle.basic_toml_tokens.specs.Token.{lexeme_of}
use Rattle.basic_toml_tokens.specs.Tokenizer.{Takes}
use Rattle.basic_toml_tokens.proofs.TokenIsUnique.{token_same}
use Rattle.basic_toml_tokens.specs.Descriptions.{description_of}
use Rattle.basic_toml_grammar.specs.Faults.{wanted, Fault}
use Rattle.basic_toml_grammar.specs.GrammarFaults.{fault_at}
use Rattle.basic_toml_grammar.specs.Grammar.{is_wordlike}
use Rattle.basic_toml_explain.specs.Cursor.{IsStopped}
use Rattle.basic_toml_explain.specs.Number.{IsJointNext, is_joint}
use Rattle.basic_toml_explain.proofs.TakenTokenStands.{word_accepts}

joint_at : (source : List ℕ) (x : ℕ × ℕ) (text : Text) → is_wordlike x.1 ≡ true → is_keylike x.1 ≡ false
    → (l : Lexeme) × (rest : Text) × IsToken source (x ∷ text) l rest × (is_joint l ≡ true)
joint_at source x text h k =
    elim (or_cases (x.1 == 43) (x.1 == 46) (ap (λ (b : Bool). b || (x.1 == 43 || x.1 == 46)) (sym k) ∙ h)) [
      | inl e ↦ (plus, text, punctuation refl (ap punctuation_of (eqb-true x.1 43 e)), refl)
      | inr e ↦ (period, text, punctuation refl (ap punctuation_of (eqb-true x.1 46 e)), refl)
    ]

joint_is : {source : List ℕ} {rest : Text} {l : Lexeme} (text : Text) → IsToken source text l rest
    → (run is_wordlike text ≡ [] → ⊥) → run is_keylike text ≡ [] → is_joint l ≡ true
joint_is [] t some none = absurd (some refl)
joint_is {source = source} {l = l} (x ∷ text) t some none = go (is_wordlike x.1) refl (is_keylike x.1) refl some none
  where
    go : (b : Bool) → is_wordlike x.1 ≡ b → (k : Bool) → is_keylike x.1 ≡ k
        → (cond b (x.1 ∷ run is_wordlike text) [] ≡ [] → ⊥) → cond k (x.1 ∷ run is_keylike text) [] ≡ []
        → is_joint l ≡ true
    go false h k e some none = absurd (some refl)
    go true h true e some none = cc
    go true h false e some none = let (m, rest', mine, j) = joint_at source x text h e in
        ap is_joint (token_same t mine).0 ∙ j

joint_next : (old new : Reading) (span : Span) (t : Token) → Takes old new span t
    → (run is_wordlike (text_of old) ≡ [] → ⊥) → run is_keylike (text_of old) ≡ [] → is_joint (lexeme_of t) ≡ true
joint_next old new span t h some none = joint_is (text_of old) h.taken.stands.token some none

pub joint_found : (old new : Reading) (span : Span) (t : Token) (expected found : List ℕ) (at : ℕ) (fault : Fault)
    → Takes old new span t → (run is_wordlike (text_of old) ≡ [] → ⊥)
    → run is_keylike (text_of old) ≡ [] → found ≡ description_of (lexeme_of t) → at ≡ old.offset
    → fault ≡ fault_at (wanted expected found) at → IsJointNext expected old fault
joint_found old new span t expected found at fault h some none found_is at_is e =
    inr (
      lexeme_of t,
      span.end,
      h.taken.stands,
      joint_next old new span t h some none,
      e ∙ ap (λ (f : List ℕ). fault_at (wanted expected f) at) found_is ∙
          ap (fault_at (wanted expected (description_of (lexeme_of t)))) at_is,
    )

-- no token is refused there
pub joint_stopped : (old : Reading) (expected : List ℕ) (fault : Fault) → IsStopped (text_of old) fault
    → (run is_wordlike (text_of old) ≡ [] → ⊥) → IsJointNext expected old fault
joint_stopped old expected fault (inl m) some = inl m
joint_stopped old expected fault (inr r) some = absurd (word_accepts (text_of old) some fault r)
