use Rattle.std.proofs.Common.{arith, refl, sym}
use Rattle.std.proofs.lemmas.Option.{slice_get_read}
use Rattle.basic_toml_tree.proofs.HeadersKept.{range_after, no_range}
use Rattle.basic_toml_tree.proofs.headers.range_of.Goals as goal

pub returns-in-Some-2 : goal.returns-in-Some-2
returns-in-Some-2 c =
    let read = c.in-Some.ensures.lookup in
    range_after 0 c.args.heads.now _ c.args.number _ c.in-Some.head.now (omega (arith, c.if-number-eq0.false))
    (slice_get_read _ _ _ _ refl read.3.0 read.1)

pub returns-in-None : goal.returns-in-None
returns-in-None c = sym (no_range 0 c.args.heads.now c.args.number c.in-None.ensures.lookup.3)
