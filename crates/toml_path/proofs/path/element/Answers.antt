use Rattle.toml_path.proofs.StepsAreFound.{element_found, element_open, element_none}
use Rattle.toml_path.proofs.path.element.Goals as goal

pub returns-in_default : goal.returns-in_default
returns-in_default c =
    element_none c.args.tokens.now.text c.args.tokens.now.offset c.number.new.tokens c.number.new.tokens _
    c.in_ok-number.ensures c.in_default.is

pub returns-then-is_close : goal.returns-then-is_close
returns-then-is_close c =
    element_found c.args.tokens.now.text c.args.tokens.now.offset c.number.new.tokens c.next_sign.new.tokens
    c.in-Some.number _ _ c.in_ok-number.ensures c.in-Some.is c.in_ok-next_sign.ensures
    (c.is_close.ensures.0 c.if-is_close.true)

pub returns-else-is_close : goal.returns-else-is_close
returns-else-is_close c =
    element_open c.args.tokens.now.text c.args.tokens.now.offset c.number.new.tokens c.next_sign.new.tokens
    c.in-Some.number _ _ c.in_ok-number.ensures c.in-Some.is c.in_ok-next_sign.ensures
    (λ e. let yes = c.is_close.ensures.1 e in let no = c.if-is_close.false in cc)
