use Rattle.basic_toml_read.proofs.Common.{◌≡◌, ◌≤◌, ◌-◌, length, IsCharBoundary, Text, text_at, is_comment, after_gap}
use Rattle.basic_toml_read.proofs.front.after_comments.Given as goal
use Rattle.basic_toml_read.proofs.LeftAfter.{line_of}

abbrev pub invariant-loop-next : goal.invariant-loop-next
invariant-loop-next l = record {
  rest : after_gap is_comment (text_at l.text l.end) ≡ after_gap is_comment (text_at l.text l.at);
  line : (before : Text) × (text_at l.text l.end ≡ line_of before);
  boundary : IsCharBoundary l.text l.end;
  forward : l.at ≤ l.end;
}

abbrev pub decreases-loop-next : goal.decreases-loop-next
decreases-loop-next l = length l.text - l.end
