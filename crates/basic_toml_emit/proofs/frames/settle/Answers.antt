use Rattle.std.proofs.Common.{refl, arith}
use Rattle.basic_toml_emit.specs.Calls.{with_row}
use Rattle.basic_toml_emit.proofs.FramesOfStack.{frames_changed, frames_kept}
use Rattle.basic_toml_emit.proofs.frames.settle.Goals as goal

pub returns-in-Table : goal.returns-in-Table
returns-in-Table c = frames_changed with_row c.args.frames.now _ _ (omega arith) c.in-Table.is _ (λ below. refl)

pub returns-in_default : goal.returns-in_default
returns-in_default c = frames_kept with_row c.args.frames.now _ _ (omega arith) c.in_default.is (λ below. refl)
