use Rattle.std.proofs.Common.{refl, length}
use Rattle.std.proofs.lemmas.Result.{IfOk-weaker}
use Rattle.std.proofs.lemmas.Option.{slice_get_read}
use Rattle.basic_toml_grow.proofs.MetTellsStop.{key_said}
use Rattle.basic_toml_grow.proofs.row_clash.row_clash.Goals as goal

pub returns-in-Some-clause-named : goal.returns-in-Some-clause-named
returns-in-Some-clause-named c =
    let keys = c.args.keys.now in
    let number = c.saturating_sub-number.result in
    let key = c.in-Some.key.now in
    IfOk-weaker c.row-in-Some.result _ _
    (λ clash is. rw c.in-Header.is (key_said keys c.args.offset c.args.last.now c.in-Header.left number
    c.saturating_sub-number.ensures _ c.in_ok-path-in-Header.ensures clash key
    (slice_get_read keys (length keys) number key refl c.in-Some.ensures.lookup.3.0 c.in-Some.ensures.lookup.1)
    is)) (rw c.as_str.ensures.value at c.row-in-Some.ensures)
