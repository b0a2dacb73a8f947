use Rattle.std.proofs.Common.{sym, ◌∙◌, arith}
use Rattle.basic_toml_tokens.specs.Class.{passes}
use Rattle.basic_toml_tokens.proofs.RunsInBlocks.{one_more, no_more, at_the_end}
use Rattle.basic_toml_tokens.proofs.class.end_by_bytes.Goals as goal

pub loop-end-preserved : goal.loop-end-preserved
loop-end-preserved c = (
  omega (arith, c.loop-end-test.true),
  one_more (passes c.args.class) c.args.bytes.now c.loop-end.end c.loop-end-test.true (sym c.is_in.ensures ∙
      c.if-is_in.true) ∙ c.loop-end.invariant.1,
)

pub returns-else-is_in : goal.returns-else-is_in
returns-else-is_in c =
    no_more (passes c.args.class) c.args.bytes.now c.loop-end.end c.loop-end-test.true (sym c.is_in.ensures ∙
    c.if-is_in.false) ∙ c.loop-end.invariant.1

pub returns-after-loop-end : goal.returns-after-loop-end
returns-after-loop-end c =
    at_the_end (passes c.args.class) c.args.bytes.now c.loop-end.end c.loop-end-test.false ∙ c.loop-end.invariant.1
