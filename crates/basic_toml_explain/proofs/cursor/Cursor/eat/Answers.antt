use Rattle.std.proofs.Common.{Ok, subst}
use Rattle.basic_toml_tokens.specs.Reading.{Reading, text_of}
use Rattle.basic_toml_tokens.specs.Token.{lexeme_of}
use Rattle.basic_toml_explain.specs.Error.{token_fault}
use Rattle.basic_toml_explain.specs.Cursor.{EatsPunctuation, IsStopped, code_of}
use Rattle.basic_toml_explain.proofs.TakenTokenStands.{eats, peeked, failed}
use Rattle.basic_toml_explain.proofs.cursor.Cursor.eat.Goals as goal

pub returns : goal.returns
returns c =
    subst (λ (old : Reading). EatsPunctuation (code_of (lexeme_of c.args.sign)) old c.eat.new.self
    (Ok c.in_ok-eat.field-0)) c.self.view_is
    (eats (lexeme_of c.args.sign) c.self.inside.tokens c.eat.new.self c.in_ok-eat.field-0 c.requires
    c.in_ok-eat.ensures.answers)

pub returns-in_err-eat : goal.returns-in_err-eat
returns-in_err-eat c =
    let fault = token_fault c.in_err-eat.field-0.0 in
    failed (EatsPunctuation (code_of (lexeme_of c.args.sign)) c.args.self.now c.eat.new.self) c.from_residual.result
    fault c.from_residual.ensures.1
    (subst (λ (old : Reading). IsStopped (text_of old) fault) c.self.view_is
    (peeked c.self.inside.tokens c.eat.new.self c.in_err-eat.field-0.0 c.in_err-eat.ensures.answers))
