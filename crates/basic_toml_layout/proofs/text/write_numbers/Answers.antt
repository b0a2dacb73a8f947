use Rattle.std.proofs.Common.{arith, ap, ◌∙◌, string_bytes}
use Rattle.basic_toml_layout.proofs.QuotedUpToEscape.{numbers_first, numbers_next}
use Rattle.basic_toml_layout.proofs.text.write_numbers.Goals as goal
use Rattle.basic_toml_layout.proofs.text.write_numbers.Goals.{then-i-gt0+in_ok-push_str, else-i-gt0}

pub loop-i-preserved : goal.loop-i-preserved
loop-i-preserved c = elim c.if-i-gt0.branch [
  | then-i-gt0+in_ok-push_str w ↦
      numbers_next (string_bytes c.args.text.now) (string_bytes c.loop-i.text) (string_bytes c.if-i-gt0.text)
      (string_bytes c.write.new.self) c.args.numbers.now c.loop-i.i (omega arith) (omega arith) c.loop-i.invariant
      (ap string_bytes w.text-is ∙ w.in_ok-push_str.ensures.bytes) c.in_ok-write.ensures.bytes
  | else-i-gt0 w ↦ numbers_first (string_bytes c.args.text.now) (string_bytes c.loop-i.text)
      (string_bytes c.if-i-gt0.text) (string_bytes c.write.new.self) c.args.numbers.now c.loop-i.i (omega arith)
      (omega arith) c.loop-i.invariant (ap string_bytes w.text-is) c.in_ok-write.ensures.bytes
]
