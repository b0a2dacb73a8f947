use Rattle.std.proofs.Common.{[], ◌∷◌, refl, ap, arith}
use Rattle.basic_toml_emit.specs.Changes.{with_stage}
use Rattle.basic_toml_emit.specs.Frames.{table_of, stage_of}
use Rattle.basic_toml_emit.specs.Open.{a_table}
use Rattle.basic_toml_emit.proofs.FramesOfStack.{frames_changed, frames_kept, stage_without_key}
use Rattle.basic_toml_emit.proofs.frames.set_stage.Goals as goal

pub returns-in-Table : goal.returns-in-Table
returns-in-Table c = frames_changed (with_stage (stage_of c.args.stage [])) c.args.frames.now _ _ (omega arith)
    c.in-Table.is _ (λ below. ap
    (λ stage. a_table stage (table_of c.in-Table.table) ∷ below)
    (stage_without_key c.args.stage _ [] c.requires))

pub returns-in_default : goal.returns-in_default
returns-in_default c = frames_kept (with_stage (stage_of c.args.stage [])) c.args.frames.now _ _ (omega arith)
    c.in_default.is (λ below. refl)
