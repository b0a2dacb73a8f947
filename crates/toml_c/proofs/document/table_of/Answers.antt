use Rattle.std.proofs.Common.{refl}
use Rattle.basic_toml.specs.TypeReads.{table_takes}
use Rattle.basic_toml.specs.View.{entries}
use Rattle.toml_c.proofs.DocumentIsRead.{held, not_held}
use Rattle.toml_c.proofs.document.table_of.Goals as goal

pub returns-clause-ok : goal.returns-clause-ok
returns-clause-ok c =
    held table_takes entries c.args.input.now c.from_slice.result c.from_slice.ensures.text c.from_slice.ensures.other

pub returns-clause-err : goal.returns-clause-err
returns-clause-err c =
    not_held table_takes entries c.args.input.now c.from_slice.result (λ members. refl) c.from_slice.ensures.text
    c.from_slice.ensures.other
