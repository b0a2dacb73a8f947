-- Where a value has to come and a number at fault begins, it is due, or the token that is refused behind one of its own.
use Rattle.std.proofs.Common.{◌≡◌, ℕ, true, List, ◌∷◌, length, Some, ap}
use Rattle.std.specs.Prelude.{not, IsUtf8}
use Rattle.std.proofs.lemmas.Bool.{or_left}
use Rattle.basic_toml_tokens.specs.Text.{Text, folded}
use Rattle.basic_toml_grammar.specs.Faults.{Fault, number_invalid}
use Rattle.basic_toml_grammar.specs.Grammar.{is_wordlike}
use Rattle.basic_toml_grammar.specs.GrammarFaults.{fault_at}
use Rattle.basic_toml_grammar.specs.Holes.{Hole, HoleInText}
use Rattle.basic_toml_grammar.specs.NumberFaults.{number_fault}
use Rattle.basic_toml_grammar.specs.NumberTokens.{behind_number}
use Rattle.basic_toml_grammar.specs.Viable as viable
use Rattle.basic_toml_grammar.specs.Viable.{FirstRefusal, NumberFails, StopsAt, IsDue}
use Rattle.basic_toml_grammar.proofs.Grammar.GrammarCarried.{element_seen}
use Rattle.basic_toml_grammar.proofs.Completion.Fillers as fillers
use Rattle.basic_toml_grammar.proofs.Completion.SignsFollow.{sign_follows}
use Rattle.basic_toml_grammar.proofs.Completion.TokensFollow.{hole_is_viable}
use Rattle.basic_toml_grammar.proofs.Viable.HolesAreDue.{Outside}

module _ (bytes : List ℕ) (utf8 : IsUtf8 bytes) (outside : Outside (folded bytes)) {p c o : ℕ} {next : Text}
    (d : HoleInText (folded bytes) Hole.value ((p, c) ∷ next)) (w : is_wordlike c ≡ true)
    (fault : number_fault (length bytes) ((p, c) ∷ next) ≡ Some o) where
  fails : NumberFails (folded bytes) (length bytes) ((p, c) ∷ next) o
  fails = record {
    value = sign_follows bytes utf8 d fillers.empty_table
        (λ e. ap not (element_seen c (or_left _ _ (or_left _ _ (or_left _ _ w)))));
    fault = fault;
  }

  stops_there : StopsAt (folded bytes) (length bytes) ((p, c) ∷ next)
  stops_there = record { viable = hole_is_viable bytes utf8 (length bytes) d; stuck = λ rest m. m.number o fails }

  pub number_is_due : ((other : Fault) → FirstRefusal (behind_number ((p, c) ∷ next)) other → ⊥)
      → IsDue (folded bytes) (length bytes) (fault_at number_invalid o)
  number_is_due none = record {
    outside = outside;
    at = (p, c) ∷ next;
    stops = stops_there;
    due = viable.number fails none;
  }

  pub token_is_due : {other : Fault} → FirstRefusal (behind_number ((p, c) ∷ next)) other
      → IsDue (folded bytes) (length bytes) other
  token_is_due first = record {
    outside = outside;
    at = (p, c) ∷ next;
    stops = stops_there;
    due = viable.token_of_number fails first;
  }
