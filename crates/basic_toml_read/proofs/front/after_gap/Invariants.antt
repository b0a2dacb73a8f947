use Rattle.basic_toml_read.proofs.Common.{◌≡◌, ◌≤◌, ◌-◌, length, IsCharBoundary, text_at, after_blanks, is_comment}
use Rattle.basic_toml_read.proofs.Common.{after_gap}
use Rattle.basic_toml_read.proofs.front.after_gap.Given as goal

-- within the gap, and after its blanks
abbrev pub invariant-loop-next : goal.invariant-loop-next
invariant-loop-next l = record {
  rest : after_gap is_comment (text_at l.text l.end) ≡ after_gap is_comment (text_at l.text l.at);
  bare : after_blanks (text_at l.text l.end) ≡ text_at l.text l.end;
  boundary : IsCharBoundary l.text l.end;
  forward : l.at ≤ l.end;
}

abbrev pub decreases-loop-next : goal.decreases-loop-next
decreases-loop-next l = length l.text - l.end
