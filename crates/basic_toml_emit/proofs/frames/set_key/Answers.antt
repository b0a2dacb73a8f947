use Rattle.std.proofs.Common.{refl, arith}
use Rattle.basic_toml_emit.specs.Open.{key_set}
use Rattle.basic_toml_emit.specs.Changes.{with_stage}
use Rattle.basic_toml_emit.proofs.FramesOfStack.{frames_changed, frames_kept, if_ok}
use Rattle.basic_toml_emit.proofs.frames.set_key.Goals as goal

pub returns-in-Table : goal.returns-in-Table
returns-in-Table c = if_ok
    (λ h. frames_changed (with_stage (key_set c.args.key.now)) c.args.frames.now _ _ (omega arith) c.in-Table.is _ h)
    c.set_key.result c.set_key.ensures

pub returns-in-Array : goal.returns-in-Array
returns-in-Array c = frames_kept (with_stage (key_set c.args.key.now)) c.args.frames.now _ _ (omega arith)
    c.in-Array.is (λ below. refl)
