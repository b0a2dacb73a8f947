use Rattle.std.proofs.Common.{subst}
use Rattle.basic_toml_tokens.specs.Reading.{Reading}
use Rattle.basic_toml_tokens.specs.Tokenizer.{NextAnswers}
use Rattle.basic_toml_tokens.proofs.tokenizer.Tokenizer.peek.Goals as goal

pub returns-clause-answers : goal.returns-clause-answers
returns-clause-answers c = (
  c.next.new.self,
  subst (λ (old : Reading). NextAnswers old c.next.new.self c.next.result) c.self.view_is
      c.next.ensures.answers,
)
