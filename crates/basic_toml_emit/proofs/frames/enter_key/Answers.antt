use Rattle.std.proofs.Common.{◌∙◌, refl, sym, ap, not, arith}
use Rattle.basic_toml_emit.specs.Changes.{with_entry, holds_key}
use Rattle.basic_toml_emit.proofs.FramesOfStack.{innermost_at_end, frames_changed, frames_kept, if_ok_at}
use Rattle.basic_toml_emit.proofs.frames.enter_key.Goals as goal

pub returns-in-Table-clause-answer : goal.returns-in-Table-clause-answer
returns-in-Table-clause-answer c =
    if_ok_at (λ is_new h. h _ ∙
    sym (ap (λ fs. not (holds_key fs)) (innermost_at_end c.args.frames.now _ _ (omega arith) c.in-Table.is)))
    c.enter_key.result c.enter_key.ensures.answer

pub returns-in-Table-clause-entered : goal.returns-in-Table-clause-entered
returns-in-Table-clause-entered c =
    if_ok_at (λ is_new h yes. frames_changed with_entry c.args.frames.now _ _ (omega arith) c.in-Table.is _ (h yes))
    c.enter_key.result c.enter_key.ensures.entered

pub returns-in-Table-clause-unchanged : goal.returns-in-Table-clause-unchanged
returns-in-Table-clause-unchanged c =
    if_ok_at (λ is_new h no. frames_changed (λ fs. fs) c.args.frames.now _ _ (omega arith) c.in-Table.is _ (h no))
    c.enter_key.result c.enter_key.ensures.unchanged

pub returns-in-Array-clause-answer : goal.returns-in-Array-clause-answer
returns-in-Array-clause-answer c =
    sym (ap (λ fs. not (holds_key fs)) (innermost_at_end c.args.frames.now _ _ (omega arith) c.in-Array.is))

pub returns-in-Array-clause-entered : goal.returns-in-Array-clause-entered
returns-in-Array-clause-entered c =
    λ _. frames_kept with_entry c.args.frames.now _ _ (omega arith) c.in-Array.is (λ below. refl)
