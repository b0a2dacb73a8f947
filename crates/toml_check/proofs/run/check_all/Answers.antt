use Rattle.std.proofs.Common.{arith, string_bytes}
use Rattle.std.proofs.KnownBytes.{Keeps-refl}
use Rattle.toml_check.proofs.FilesInTurn.{stopped_writing, stopped_for_memory, ends}
use Rattle.toml_check.proofs.run.check_all.Goals as goal

pub returns-in_default : goal.returns-in_default
returns-in_default g c =
    stopped_for_memory c.args.is_quiet (g.S.Source.bytes c.args.source.now) c.args.names.now c.loop-name.name-index
    c.name-item.result c.loop-name-test.true c.name-item.is (g.W.Write.contents c.args.writer.now)
    (g.W.Write.contents c.loop-name.writer) c.loop-name.status c.loop-name.invariant _ c.higher.result
    (Keeps-refl (g.W.Write.contents c.loop-name.writer)) c.higher.ensures

pub returns-in-Err : goal.returns-in-Err
returns-in-Err g c =
    stopped_writing c.args.is_quiet (g.S.Source.bytes c.args.source.now) c.args.names.now c.loop-name.name-index
    c.name-item.result c.loop-name-test.true c.name-item.is (g.W.Write.contents c.args.writer.now)
    (g.W.Write.contents c.loop-name.writer) c.loop-name.status c.loop-name.invariant c.in-Ok.verdict.status
    c.as_str.result.now (string_bytes c.in-Ok.verdict.text) c.as_bytes.result.now _ c.higher-in-Err.result
    c.in-Ok.ensures c.as_str.ensures.value c.as_bytes.ensures.value c.write_all.ensures.front c.higher-in-Err.ensures

pub returns : goal.returns
returns g c =
    ends c.args.is_quiet (g.S.Source.bytes c.args.source.now) c.args.names.now c.loop-name.name-index
    (g.W.Write.contents c.args.writer.now) (g.W.Write.contents c.loop-name.writer) _ c.loop-name.status
    (omega (arith, c.loop-name-test.false, c.loop-name.auto.name-index-end)) c.loop-name.invariant
    (Keeps-refl (g.W.Write.contents c.loop-name.writer))
