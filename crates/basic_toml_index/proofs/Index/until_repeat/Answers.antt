use Rattle.std.proofs.Common.{[], refl, arith}
use Rattle.basic_toml_index.specs.Index.{leaves_of}
use Rattle.basic_toml_index.proofs.FirstTexts.{sorted_first, distinct_first}
use Rattle.basic_toml_index.proofs.IndexAfterInsert.{IsIndex-boxed}
use Rattle.basic_toml_index.proofs.Index.until_repeat.Goals as goal

pub returns-then-count-eq0-clause-index : goal.returns-then-count-eq0-clause-index
returns-then-count-eq0-clause-index g c = c.none.ensures [] refl (omega arith)

pub returns-clause-index : goal.returns-clause-index
returns-clause-index g c =
    let keys = g.T.Texts.texts c.args.texts.now in
    let leaves = leaves_of c.in_ok-leaves.leaves.items in
    IsIndex-boxed _ c.in_ok-new.field-0 (distinct_first keys c.in_ok-leaves.count leaves c.in_ok-leaves.ensures.first)
    (rw c.in_ok-new.ensures.ok (sorted_first keys c.in_ok-leaves.count leaves c.in_ok-leaves.ensures.first))
