use Rattle.std.proofs.Common.{◌≡◌, ◌-◌, length}
use Rattle.std.specs.Str.{IsCharBoundary}
use Rattle.basic_toml_tokens.specs.Text.{text_at, after_run, is_comment}
use Rattle.basic_toml_tokens.specs.Tokenizer.{after_line}
use Rattle.basic_toml_tokens.proofs.line.after_line.Given as goal

abbrev pub invariant-loop-c : goal.invariant-loop-c
invariant-loop-c l = record {
  rest : after_line (text_at l.text l.end) ≡ after_line (text_at l.text l.at);
  stopped : after_run is_comment (text_at l.text l.end) ≡ text_at l.text l.end;
  boundary : IsCharBoundary l.text l.end;
}

abbrev pub decreases-loop-c : goal.decreases-loop-c
decreases-loop-c l = length l.text - l.end
