use Rattle.std.proofs.Common.{sym, subst}
use Rattle.std.specs.Prelude.{option_map}
use Rattle.basic_toml_tokens.specs.Token.{TokenAt, lexeme_of}
use Rattle.toml_path.specs.Path.{Answers, number_of}
use Rattle.toml_path.proofs.StepsAreFound.{made, none_made}
use Rattle.toml_path.proofs.path.number.Goals as goal

pub returns-in-Some : goal.returns-in-Some
returns-in-Some c =
    made number_of c.args.tokens.now.text c.args.tokens.now.offset c.token.new.tokens (lexeme_of c.in-Some.token) _
    (subst (λ o. Answers TokenAt c.args.tokens.now.text c.args.tokens.now.offset c.token.new.tokens
    (option_map lexeme_of o)) c.in-Some.is c.in_ok-token.ensures) (sym c.number_in.ensures)

pub returns-in-None : goal.returns-in-None
returns-in-None c =
    none_made number_of c.args.tokens.now.text c.args.tokens.now.offset c.token.new.tokens
    (subst (λ o. Answers TokenAt c.args.tokens.now.text c.args.tokens.now.offset c.token.new.tokens
    (option_map lexeme_of o)) c.in-None.is c.in_ok-token.ensures)
