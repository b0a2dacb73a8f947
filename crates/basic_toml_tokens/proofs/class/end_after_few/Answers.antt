use Rattle.std.proofs.Common.{get_or, sym, ap, ◌∙◌, arith}
use Rattle.basic_toml_tokens.specs.declared.class.Class.{Class}
use Rattle.basic_toml_tokens.specs.Class.{passes}
use Rattle.basic_toml_tokens.specs.Lanes.{class_of}
use Rattle.basic_toml_tokens.proofs.RunsInBlocks.{one_more}
use Rattle.basic_toml_tokens.proofs.class.end_after_few.Goals as goal

pub loop-end-preserved : goal.loop-end-preserved
loop-end-preserved c =
    let bytes = c.args.bytes.now in
    let end = c.loop-end.end in
    let same = ap (λ (k : Class). passes k (get_or bytes end 0)) c.class.ensures in (
      omega (arith, c.loop-end.invariant.0),
      omega (arith, c.loop-end-test.true, c.if-at-saturating_sub.true, c.saturating_sub.ensures, c.loop-end.invariant.0),
      one_more (passes (class_of c.args.class)) bytes end
          (omega (arith, c.loop-end-test.true, c.if-at-saturating_sub.true, c.saturating_sub.ensures, c.loop-end.invariant.0))
          (sym same ∙ sym c.is_in.ensures ∙ c.if-not-is_in.false) ∙ c.loop-end.invariant.2,
    )
