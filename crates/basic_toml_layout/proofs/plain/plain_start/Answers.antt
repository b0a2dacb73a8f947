use Rattle.std.proofs.Common.{inl, inr, arith}
use Rattle.std.proofs.lemmas.Bool.{cases_lt}
use Rattle.basic_toml_layout.proofs.plain.plain_start.Goals as goal

pub loop-start-preserved : goal.loop-start-preserved
loop-start-preserved c = record {
  within = omega arith;
  plain = λ k lt. elim (cases_lt k c.loop-start.start) [
    | inl before ↦ c.loop-start.invariant.plain k before
    | inr from ↦ c.are_eight_plain.ensures c.if-not-are_eight_plain.false k from (omega arith)
  ];
}
