use Rattle.basic_toml_emit.proofs.FramesOfStack.{innermost_is}
use Rattle.basic_toml_emit.proofs.frames.innermost.Goals as goal

pub returns : goal.returns
returns c = innermost_is (λ x. x.now) (λ x. x.now) c.args.frames.now c.split_last.result c.split_last.ensures.cases
