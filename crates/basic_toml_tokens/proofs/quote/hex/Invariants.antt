use Rattle.std.proofs.Common.{◌≡◌, ◌≤◌, ◌<◌, ◌-◌, ◌^◌}
use Rattle.std.specs.Str.{IsCharBoundary}
use Rattle.basic_toml_tokens.specs.Text.{text_at}
use Rattle.basic_toml_tokens.specs.BodyFront.{hex_front}
use Rattle.basic_toml_tokens.proofs.quote.hex.Given as goal

abbrev pub invariant-loop : goal.invariant-loop
invariant-loop l = record {
  read : hex_front l.start l.letter l.number (l.digits - l.counter) (text_at l.text l.next)
      ≡ hex_front l.start l.letter 0 l.digits (text_at l.text l.at);
  small : l.number < 16 ^ l.counter;
  boundary : IsCharBoundary l.text l.next;
  forward : l.at ≤ l.next;
}
