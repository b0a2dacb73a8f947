-- No fault of the grammar is due before what is too deep: tokens lead there, and each of them may stand.
use Rattle.std.proofs.Common.{◌≡◌, ◌⊎◌, inl, inr, ℕ, List, [], ◌∷◌, ◌++◌, length, refl, ap, sym, ◌∙◌, subst}
use Rattle.std.proofs.lemmas.List.{append_assoc}
use Rattle.basic_toml_tokens.specs.Text.{Text, folded}
use Rattle.basic_toml_grammar.specs.Statements.{DeepStopsComeFirst, StandsBy}
use Rattle.basic_toml_grammar.proofs.Completion.TokensFollow.{hole_is_viable}
use Rattle.basic_toml_grammar.proofs.Nesting.DeepStopsAreHoles.{in_text}
use Rattle.basic_toml_grammar.proofs.Viable.FaultsAreOne.{Leads, here, on, either_leads, stays, passed_text_is_viable}

-- where tokens lead, the text goes on
led_to : {start : Text} {end : ℕ} {text last : Text} → Leads start end text last → (front : Text)
    × (text ≡ front ++ last)
led_to here = ([], refl)
led_to {last = last} (on m l) =
    let (front, e) = led_to l in
    let t = m.follows.next in
    (t.chars ++ front, t.split ∙ ap (λ (u : Text). t.chars ++ u) e ∙ sym (append_assoc t.chars front last))

pub deep_stops_come_first : DeepStopsComeFirst
deep_stops_come_first limit p bytes at utf8 d s =
    let t = in_text limit d in
    let v = hole_is_viable bytes utf8 (length bytes) t.hole in
    let g = passed_text_is_viable (folded bytes) (length bytes) t.deepest.at v in
    let (between, e) = led_to (go t.deepest.at (either_leads s.viable v)) in
    record {
      front = g.front;
      char = t.deepest.char;
      next = t.deepest.next;
      stands = g.before ∙ ap (λ (u : Text). g.front ++ u) t.deepest.sign;
      between = between;
      goes_on = sym t.deepest.sign ∙ e;
    }
  where
    go : (there : Text) → Leads (folded bytes) (length bytes) at there ⊎ Leads (folded bytes) (length bytes) there at
        → Leads (folded bytes) (length bytes) there at
    go there (inl l) = subst (λ (t : Text). Leads (folded bytes) (length bytes) t at) (stays s l) here
    go there (inr l) = l
