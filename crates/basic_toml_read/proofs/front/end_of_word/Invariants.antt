use Rattle.basic_toml_read.proofs.Common.{◌≡◌, ◌≤◌, ◌-◌, length, IsCharBoundary, text_at, after_run, is_keylike}
use Rattle.basic_toml_read.proofs.Common.{is_wordlike}
use Rattle.basic_toml_read.proofs.front.end_of_word.Given as goal

abbrev pub invariant-loop-next : goal.invariant-loop-next
invariant-loop-next l = record {
  rest : after_run is_wordlike (text_at l.text l.end) ≡ after_run is_wordlike (text_at l.text l.at);
  word : after_run is_keylike (text_at l.text l.end) ≡ text_at l.text l.end;
  boundary : IsCharBoundary l.text l.end;
  forward : l.at ≤ l.end;
}

abbrev pub decreases-loop-next : goal.decreases-loop-next
decreases-loop-next l = length l.text - l.end
