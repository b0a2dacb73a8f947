use Rattle.std.proofs.Common.{◌≡◌, ℕ, List, length, refl, sym, ◌∙◌, ap, subst, Option}
use Rattle.toml_answer.specs.Due.{IsDue}
use Rattle.toml_answer.specs.declared.Form.{Form}
use Rattle.toml_c.specs.declared.answer.TomlAnswer.{TomlAnswer}
use Rattle.toml_c.specs.Answers.{with_front, answered, Tidies, due, no_memory}
use Rattle.toml_c.proofs.tidy.tidy.Goals as goal

tidied : (form : Form) (input old new text bytes : List ℕ) (status : ℕ) (place : Option (ℕ × ℕ)) (answer : TomlAnswer)
    → IsDue form input status text place → bytes ≡ text → new ≡ with_front old bytes
    → answer ≡ answered status (length bytes) place → Tidies form input old new answer
tidied form input old new text bytes status place answer is_due same is_put is =
    subst (Tidies form input old new) (sym (is ∙ ap (λ b. answered status (length b) place) same))
    (due is_due (is_put ∙ ap (with_front old) same))

pub returns-in-Ok : goal.returns-in-Ok
returns-in-Ok c =
    tidied c.args.form c.args.input.now c.args.output.now c.put.new.memory _ c.as_bytes-text.result.now
    c.in-Ok.answer.status c.in-Ok.answer.line_col c.answered.result c.in-Ok.ensures c.as_bytes-text.ensures.value
    c.put.ensures c.answered.ensures

pub returns-in-Err : goal.returns-in-Err
returns-in-Err c =
    subst (Tidies c.args.form c.args.input.now c.args.output.now c.args.output.now) (sym c.answered-in-Err.ensures)
    (no_memory refl)
