use Rattle.std.proofs.Common.{inl, inr, ap}
use Rattle.basic_toml_tokens.specs.Reading.{Reading}
use Rattle.basic_toml_tokens.specs.Tokenizer.{Takes}
use Rattle.basic_toml_tokens.proofs.CallsTakeTheToken.{multiline_key}
use Rattle.basic_toml_tokens.proofs.tokenizer.Tokenizer.table_key.Goals as goal

pub returns-then-multiline-clause-answers : goal.returns-then-multiline-clause-answers
returns-then-multiline-clause-answers c =
    let string = c.in-Some-default-String in
    let taken : Takes c.args.self.now c.next.new.self c.in-Some-default-String.span
    c.in-Some-default-String.field-0-1 = rw string.is at c.in_ok-span.ensures.answers in
    inr (inl (
      ap (λ (r : Reading). r.offset) c.self.view_is,
      ap (λ (r : Reading). r.text) taken.after,
      multiline_key c.args.self.now c.next.new.self c.in-Some-default-String.span c.in-Some-default-String.field-0-1 _
          _ c.in-Some-default-String.multiline taken string.field-0-1-is c.if-multiline.true,
    ))
