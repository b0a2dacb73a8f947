use Rattle.std.proofs.Common.{◌≡◌, ◌≤◌, ◌-◌, length}
use Rattle.std.specs.Str.{IsCharBoundary}
use Rattle.basic_toml_tokens.specs.Text.{text_at, after_run, is_blank}
use Rattle.basic_toml_tokens.specs.Strings.{is_space}
use Rattle.basic_toml_tokens.proofs.quote.end_of_space.Given as goal

abbrev pub invariant-loop-next : goal.invariant-loop-next
invariant-loop-next l = record {
  rest : after_run is_space (text_at l.text l.end) ≡ after_run is_space (text_at l.text l.at);
  blanks : after_run is_blank (text_at l.text l.end) ≡ text_at l.text l.end;
  boundary : IsCharBoundary l.text l.end;
  forward : l.at ≤ l.end;
}

abbrev pub decreases-loop-next : goal.decreases-loop-next
decreases-loop-next l = length l.text - l.end
