use Rattle.std.proofs.Common.{string_bytes}
use Rattle.toml_get.proofs.RunEnds.{value_cut, reason_written, reason_cut}
use Rattle.toml_get.proofs.run.run.Goals as goal
use Rattle.toml_get.proofs.run.run.Goals.{in-Ok-write_all, in-Err}
use Rattle.toml_streams.specs.Streams.{display_name}

pub returns-then-answer-ne-PRINTED : goal.returns-then-answer-ne-PRINTED
returns-then-answer-ne-PRINTED g c =
    elim c.match-write_all.branch [
      | in-Ok-write_all w ↦
          reason_written c.args.format (display_name c.args.name.now) c.args.path.now
          (g.S.Source.bytes c.args.source.now c.args.name.now) (g.W.Write.contents c.args.output.now)
          (g.W.Write.contents c.args.output.now) (g.E.Write.contents c.args.errors.now) _ (string_bytes c.in-Ok.answer.text)
          c.in-Ok.answer.status c.in-Ok.ensures _ _ c.if-answer-ne-PRINTED.true c.as_bytes.ensures.value w.in-Ok-write_all.ensures.ok
          w.result-is
      | in-Err w ↦
          reason_cut c.args.format (display_name c.args.name.now) c.args.path.now
          (g.S.Source.bytes c.args.source.now c.args.name.now) (g.W.Write.contents c.args.output.now)
          (g.W.Write.contents c.args.output.now) (g.E.Write.contents c.args.errors.now) _ (string_bytes c.in-Ok.answer.text)
          c.in-Ok.answer.status c.in-Ok.ensures _ _ c.if-answer-ne-PRINTED.true c.as_bytes.ensures.value c.write_all.ensures.front
          w.result-is
    ]

pub returns : goal.returns
returns g c =
    value_cut c.args.format (display_name c.args.name.now) c.args.path.now
    (g.S.Source.bytes c.args.source.now c.args.name.now) (g.W.Write.contents c.args.output.now) _
    (g.E.Write.contents c.args.errors.now) _ (string_bytes c.in-Ok.answer.text) c.in-Ok.answer.status c.in-Ok.ensures
    _ _ c.if-answer-ne-PRINTED.false c.as_bytes-2.ensures.value c.write_all-2.ensures.front
    c.tell_failure-in-Err-write_all.ensures.status c.tell_failure-in-Err-write_all.ensures.told
