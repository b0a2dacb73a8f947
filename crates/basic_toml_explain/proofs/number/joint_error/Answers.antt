use Rattle.std.proofs.Common.{subst}
use Rattle.basic_toml_tokens.specs.Reading.{Reading, text_of}
use Rattle.basic_toml_tokens.specs.Tokenizer.{Takes}
use Rattle.basic_toml_explain.specs.Cursor.{IsStopped}
use Rattle.basic_toml_explain.proofs.JointIsFound.{joint_found, joint_stopped}
use Rattle.basic_toml_explain.proofs.number.joint_error.Goals as goal

pub returns-in-Ok-Some : goal.returns-in-Ok-Some
returns-in-Ok-Some c =
    let taken = rw c.in-Ok-Some.field-0-is at c.in-Ok-Some.ensures in
    joint_found c.args.cursor.now c.next.new.self c.in-Ok-Some.field-0-0-0 c.in-Ok-Some.token c.args.wanted.now
    c.describe.result.now c.current-at.result c.wanted_at.result
    (subst (λ (r : Reading). Takes r c.next.new.self c.in-Ok-Some.field-0-0-0 c.in-Ok-Some.token)
    c.current-at.ensures.same taken)
    c.requires.some c.requires.no_word c.describe.ensures c.current-at.ensures.offset c.wanted_at.ensures

pub returns-in-Err : goal.returns-in-Err
returns-in-Err c =
    let fault = c.in-Err.error in
    joint_stopped c.args.cursor.now c.args.wanted.now fault
    (subst (λ (r : Reading). IsStopped (text_of r) fault) c.current-at.ensures.same c.in-Err.ensures) c.requires.some
