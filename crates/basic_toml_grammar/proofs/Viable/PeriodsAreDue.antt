-- Where a value has to come and a period stands, it is due that a value is wanted.
use Rattle.std.proofs.Common.{◌≡◌, ℕ, List, ◌∷◌, [], length, refl, ap, sym, ◌∙◌, subst, codes}
use Rattle.std.specs.Prelude.{IsUtf8}
use Rattle.basic_toml_tokens.specs.Text.{Text, folded, offset_in, run, is_comment}
use Rattle.basic_toml_tokens.specs.TokenAt as token
use Rattle.basic_toml_tokens.specs.Descriptions.{description_of}
use Rattle.basic_toml_grammar.specs.Faults.{wanted}
use Rattle.basic_toml_grammar.specs.Grammar.{is_wordlike, IsValue}
use Rattle.basic_toml_grammar.specs.GrammarFaults as faults
use Rattle.basic_toml_grammar.specs.GrammarFaults.{fault_at}
use Rattle.basic_toml_grammar.specs.Holes.{Hole, HoleInText}
use Rattle.basic_toml_grammar.specs.Viable as viable
use Rattle.basic_toml_grammar.specs.Viable.{MayStand, IsDue, Want}
use Rattle.basic_toml_grammar.proofs.Grammar.StringsCarried.{Alike}
use Rattle.basic_toml_grammar.proofs.Completion.Fillers as fillers
use Rattle.basic_toml_grammar.proofs.Completion.SignsFollow.{sign_follows}
use Rattle.basic_toml_grammar.proofs.Completion.TokensFollow.{hole_is_viable}
use Rattle.basic_toml_grammar.proofs.Viable.HolesHold.{HasValue}
use Rattle.basic_toml_grammar.proofs.Viable.TextsHold.{FitsOrEnds}
use Rattle.basic_toml_grammar.proofs.Viable.TokensAtHoles.{token_alike, token_holds}
use Rattle.basic_toml_grammar.proofs.Viable.NumbersOnTheWay.{plain_sound, word_read}
use Rattle.basic_toml_grammar.proofs.Viable.UnquotedWords.{period_no_value}
use Rattle.basic_toml_grammar.proofs.Viable.HolesAreDue.{Outside}

-- no value begins with a period
no_value : {p : ℕ} {next other : Text} → Alike ((p, 46) ∷ next) other → HasValue other → ⊥
no_value {p = p} {next = next} a v =
    let first : (p, 46) ≡ a.first = let h : (p, 46) ∷ next ≡ a.first ∷ a.next = a.here in cc in
    let there = a.there ∙ ap (λ (y : ℕ × ℕ). y ∷ a.next') (sym first) in
    let word = (word_read {x = (p, 46)} refl (subst (λ (t : Text). IsValue is_comment t v.offset v.value v.rest) there v.is)).0
    in
    period_no_value (run is_wordlike a.next') word

module _ (bytes : List ℕ) (utf8 : IsUtf8 bytes) (outside : Outside (folded bytes)) {p : ℕ} {next : Text}
    (d : HoleInText (folded bytes) Hole.value ((p, 46) ∷ next)) where
  stuck : (rest : Text) → MayStand (folded bytes) (length bytes) ((p, 46) ∷ next) rest → ⊥
  stuck rest m = go (token_holds d m.follows)
    where
      go : FitsOrEnds Hole.value m.follows.rest → ⊥
      go (FitsOrEnds.fit f) = no_value (token_alike m.follows.next) (f.value refl)

  pub period_is_due : IsDue (folded bytes) (length bytes)
      (fault_at (wanted (codes "a value") (description_of token.period)) (offset_in (length bytes) ((p, 46) ∷ next)))
  period_is_due = record {
    outside = outside;
    at = (p, 46) ∷ next;
    stops = record { viable = hole_is_viable bytes utf8 (length bytes) d; stuck = stuck };
    due = viable.mismatch {want = Want.value} (plain_sound (length bytes) refl refl)
        (faults.token {source = []} (token.punctuation refl refl))
        (viable.this (sign_follows bytes utf8 d fillers.empty_table (λ e. refl)));
  }
