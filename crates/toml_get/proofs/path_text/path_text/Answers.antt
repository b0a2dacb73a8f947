use Rattle.std.proofs.Common.{string_bytes}
use Rattle.toml_get.proofs.StepsInTurn.{step_more}
use Rattle.toml_get.proofs.path_text.path_text.Goals as goal

pub loop-i-preserved : goal.loop-i-preserved
loop-i-preserved c =
    step_more c.loop-i.is_later (string_bytes c.loop-i.text) (string_bytes c.push_step.new.text) _ c.args.steps.now
    c.loop-i.i c.index-steps-i.result c.loop-i-test.true c.index-steps-i.is c.in_ok-push_step.ensures c.loop-i.invariant
