use Rattle.std.proofs.Common.{subst}
use Rattle.basic_toml_tokens.specs.Reading.{Reading, text_of}
use Rattle.basic_toml_explain.specs.Error.{token_fault}
use Rattle.basic_toml_explain.specs.Cursor.{TakesToken, IsStopped}
use Rattle.basic_toml_explain.proofs.TakenTokenStands.{stopped, failed}
use Rattle.basic_toml_explain.proofs.cursor.Cursor.next.Goals as goal

pub returns-in_err-next : goal.returns-in_err-next
returns-in_err-next c =
    let fault = token_fault c.in_err-next.field-0.0 in
    failed (TakesToken c.args.self.now c.next.new.self) c.from_residual.result fault c.from_residual.ensures.1
    (subst (λ (old : Reading). IsStopped (text_of old) fault) c.self.view_is
    (stopped c.self.inside.tokens c.next.new.self c.in_err-next.field-0.0 c.in_err-next.ensures.answers))
