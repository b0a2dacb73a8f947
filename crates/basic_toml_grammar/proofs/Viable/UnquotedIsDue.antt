-- Where a value has to come and a word stands that is neither a value nor the beginning of a number, it is due that
-- strings are quoted.
use Rattle.std.proofs.Common.{◌≡◌, ℕ, Bool, true, cond, List, ◌∷◌, [], length, None}
use Rattle.std.proofs.Common.{refl, ap, sym, ◌∙◌, subst}
use Rattle.std.specs.Prelude.{not, IsUtf8}
use Rattle.std.proofs.lemmas.Bool.{or_left}
use Rattle.basic_toml_tokens.specs.Text.{Text, folded, offset_in, run, after_run, is_keylike, is_comment}
use Rattle.basic_toml_tokens.specs.TokenAt as token
use Rattle.basic_toml_tokens.specs.TokenAt.{keylike, IsToken}
use Rattle.basic_toml_tokens.proofs.TokenIsUnique.{token_same}
use Rattle.basic_toml_grammar.specs.Sections.{Raw}
use Rattle.basic_toml_grammar.specs.Faults.{unquoted_string}
use Rattle.basic_toml_grammar.specs.Grammar.{word_value, IsValue}
use Rattle.basic_toml_grammar.specs.GrammarFaults as faults
use Rattle.basic_toml_grammar.specs.GrammarFaults.{fault_at, is_unquoted}
use Rattle.basic_toml_grammar.specs.Holes.{Hole, HoleInText}
use Rattle.basic_toml_grammar.specs.NumberFaults.{number_fault, plus_fault, word_fault, begins_number}
use Rattle.basic_toml_grammar.specs.Viable as viable
use Rattle.basic_toml_grammar.specs.Viable.{SameToken, MayStand, IsDue, Want}
use Rattle.basic_toml_grammar.proofs.Grammar.GrammarCarried.{element_seen}
use Rattle.basic_toml_grammar.proofs.Grammar.StringsCarried.{Alike}
use Rattle.basic_toml_grammar.proofs.Completion.Fillers as fillers
use Rattle.basic_toml_grammar.proofs.Completion.SignsFollow.{sign_follows}
use Rattle.basic_toml_grammar.proofs.Completion.TokensFollow.{hole_is_viable}
use Rattle.basic_toml_grammar.proofs.Viable.HolesHold.{HasValue}
use Rattle.basic_toml_grammar.proofs.Viable.TextsHold.{FitsOrEnds}
use Rattle.basic_toml_grammar.proofs.Viable.TokensAtHoles.{token_alike, token_holds}
use Rattle.basic_toml_grammar.proofs.Viable.NumberParts.{run_keys, behind, run_splits}
use Rattle.basic_toml_grammar.proofs.Viable.FractionsHaveNoFault.{key_not}
use Rattle.basic_toml_grammar.proofs.Viable.NumbersOnTheWay.{no_number, word_read}
use Rattle.basic_toml_grammar.proofs.Viable.UnquotedWords.{unquoted_no_number, unquoted_no_value}
use Rattle.basic_toml_grammar.proofs.Viable.HolesAreDue.{Outside}

-- such a word is no value
no_value : {x : ℕ × ℕ} {text rest : Text} {q : ℕ} {v : Raw} → is_keylike x.1 ≡ true
    → is_unquoted (run is_keylike (x ∷ text)) ≡ true → IsValue is_comment (x ∷ text) q v rest → ⊥
no_value {x = x} {text = text} key u i =
    unquoted_no_value (run is_keylike (x ∷ text)) (run_keys (x ∷ text)) (behind (x ∷ text)) u
    (ap word_value (sym (run_splits (x ∷ text))) ∙ (word_read {x = x} (or_left _ _ key) i).0)

-- wherever the token of such a word stands, no value does
no_such_value : {p c : ℕ} {next rest other : Text} → is_keylike c ≡ true
    → is_unquoted (run is_keylike ((p, c) ∷ next)) ≡ true → SameToken ((p, c) ∷ next) rest other → HasValue other → ⊥
no_such_value {p = p} {c = c} {next = next} {other = other} key u s v =
    no_value {x = (p, c)} key (ap is_unquoted (sym same) ∙ u)
    (subst (λ (t : Text). IsValue is_comment t v.offset v.value v.rest) there v.is)
  where
    a : Alike ((p, c) ∷ next) other
    a = token_alike s

    first : a.first ≡ (p, c)
    first = let h : (p, c) ∷ next ≡ a.first ∷ a.next = a.here in cc

    there : other ≡ (p, c) ∷ a.next'
    there = a.there ∙ ap (λ (y : ℕ × ℕ). y ∷ a.next') first

    word_here : s.lexeme ≡ keylike (run is_keylike ((p, c) ∷ next))
    word_here = (token_same s.here (token.word refl key)).0

    word_there : s.lexeme ≡ keylike (run is_keylike ((p, c) ∷ a.next'))
    word_there =
        (token_same (subst (λ (t : Text). IsToken s.source t s.lexeme s.more) there s.there) (token.word refl key)).0

    same : run is_keylike ((p, c) ∷ next) ≡ run is_keylike ((p, c) ∷ a.next')
    same =
        let h : keylike (run is_keylike ((p, c) ∷ next)) ≡ keylike (run is_keylike ((p, c) ∷ a.next')) =
        sym word_here ∙ word_there in cc

-- nor does a number begin
no_fault : (end p c : ℕ) (next : Text) → is_keylike c ≡ true → is_unquoted (run is_keylike ((p, c) ∷ next)) ≡ true
    → number_fault end ((p, c) ∷ next) ≡ None
no_fault end p c next key u =
    ap (λ (b : Bool). cond b (plus_fault end (run is_keylike next) next) (cond (begins_number w) (word_fault end p w r)
    None)) (key_not c 43 key refl)
    ∙ ap (λ (b : Bool). cond b (word_fault end p w r) None) (unquoted_no_number w u)
  where
    w : List ℕ
    w = run is_keylike ((p, c) ∷ next)

    r : Text
    r = after_run is_keylike ((p, c) ∷ next)

module _ (bytes : List ℕ) (utf8 : IsUtf8 bytes) (outside : Outside (folded bytes)) {p c : ℕ} {next : Text}
    (d : HoleInText (folded bytes) Hole.value ((p, c) ∷ next)) (key : is_keylike c ≡ true)
    (u : is_unquoted (run is_keylike ((p, c) ∷ next)) ≡ true) where
  stuck : (rest : Text) → MayStand (folded bytes) (length bytes) ((p, c) ∷ next) rest → ⊥
  stuck rest m = go (token_holds d m.follows)
    where
      go : FitsOrEnds Hole.value m.follows.rest → ⊥
      go (FitsOrEnds.fit f) = no_such_value key u m.follows.next (f.value refl)

  pub unquoted_is_due : IsDue (folded bytes) (length bytes)
      (fault_at unquoted_string (offset_in (length bytes) ((p, c) ∷ next)))
  unquoted_is_due = record {
    outside = outside;
    at = (p, c) ∷ next;
    stops = record { viable = hole_is_viable bytes utf8 (length bytes) d; stuck = stuck };
    due = viable.mismatch {want = Want.value} (no_number (no_fault (length bytes) p c next key u))
        (faults.token {source = []} (token.word refl key))
        (viable.this (sign_follows bytes utf8 d fillers.empty_table
        (λ e. ap not (element_seen c (or_left _ _ (or_left _ _ (or_left _ _ (or_left _ _ key))))))));
  }
