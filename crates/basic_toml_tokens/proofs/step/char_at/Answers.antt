use Rattle.std.proofs.Common.{◌≡◌, length, drop, ap, ◌∙◌, sym, arith, length-drop}
use Rattle.basic_toml_tokens.proofs.StepIsTheFold.{text_end}
use Rattle.basic_toml_tokens.proofs.step.char_at.Goals as goal

pub returns-in-None : goal.returns-in-None
returns-in-None c =
    let none : length (drop c.args.at c.args.text.now) ≡ 0 =
    ap length (sym (c.chars-chars.ensures.rest ∙ c.range_from.ensures.value)) ∙ c.in-None.ensures.steps.0.0 in
    text_end c.args.text.now c.args.at (omega (arith, length-drop c.args.at c.args.text.now))
