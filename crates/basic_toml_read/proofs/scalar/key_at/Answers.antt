use Rattle.basic_toml_read.proofs.ScalarsRead.{bare_key, no_bare}
use Rattle.basic_toml_read.specs.declared.key_text.KeyText.TheVariants.{Borrowed}
use Rattle.basic_toml_read.proofs.scalar.key_at.Goals as goal

pub quoted_key_at-requires-clause-none : goal.quoted_key_at-requires-clause-none
quoted_key_at-requires-clause-none c =
    no_bare c.args.text.now c.args.at c.end_of_run-end.result c.end_of_run-end.ensures.run c.if-at-end.true

pub returns-clause-read : goal.returns-clause-read
returns-clause-read c =
    bare_key c.args.text.now c.args.at c.end_of_run-end.result (Borrowed c.range.result) c.end_of_run-end.ensures.run
    c.if-at-end.false c.range.ensures.value
