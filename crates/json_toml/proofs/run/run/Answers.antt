use Rattle.std.proofs.Common.{string_bytes}
use Rattle.toml_streams.specs.Streams.{display_name}
use Rattle.json_toml.proofs.RunEnds.{toml_written, toml_cut, refusal_written, refusal_cut}
use Rattle.json_toml.proofs.run.run.Goals as goal

pub returns-in_default-write_all : goal.returns-in_default-write_all
returns-in_default-write_all g c =
    refusal_cut c.args.form (display_name c.args.name.now) (g.S.Source.bytes c.args.source.now c.args.name.now)
    (g.W.Write.contents c.args.output.now) (g.W.Write.contents c.args.output.now)
    (g.E.Write.contents c.args.errors.now) _ c.display_name-label.result.now c.in-Ok.input.items
    c.as_slice.result.now (string_bytes c.in-Ok-answer_to.answer.text) c.in-Ok-answer_to.answer.status
    c.display_name-label.ensures c.in-Ok.ensures c.as_slice.ensures.value c.in-Ok-answer_to.ensures _
    c.if-answer-ne-WRITTEN.true c.as_bytes.ensures.value c.write_all.ensures.front

pub returns-then-answer-ne-WRITTEN : goal.returns-then-answer-ne-WRITTEN
returns-then-answer-ne-WRITTEN g c =
    refusal_written c.args.form (display_name c.args.name.now) (g.S.Source.bytes c.args.source.now c.args.name.now)
    (g.W.Write.contents c.args.output.now) (g.W.Write.contents c.args.output.now)
    (g.E.Write.contents c.args.errors.now) _ c.display_name-label.result.now c.in-Ok.input.items
    c.as_slice.result.now (string_bytes c.in-Ok-answer_to.answer.text) c.in-Ok-answer_to.answer.status
    c.display_name-label.ensures c.in-Ok.ensures c.as_slice.ensures.value c.in-Ok-answer_to.ensures _
    c.if-answer-ne-WRITTEN.true c.as_bytes.ensures.value c.in-Ok-write_all.ensures.ok

pub returns-in-Ok-write_all-2 : goal.returns-in-Ok-write_all-2
returns-in-Ok-write_all-2 g c =
    toml_written c.args.form (display_name c.args.name.now) (g.S.Source.bytes c.args.source.now c.args.name.now)
    (g.W.Write.contents c.args.output.now) _ (g.E.Write.contents c.args.errors.now)
    (g.E.Write.contents c.args.errors.now) c.display_name-label.result.now c.in-Ok.input.items c.as_slice.result.now
    (string_bytes c.in-Ok-answer_to.answer.text) c.in-Ok-answer_to.answer.status c.display_name-label.ensures c.in-Ok.ensures
    c.as_slice.ensures.value c.in-Ok-answer_to.ensures _ c.if-answer-ne-WRITTEN.false c.as_bytes-2.ensures.value
    c.in-Ok-write_all-2.ensures.ok

pub returns : goal.returns
returns g c =
    toml_cut c.args.form (display_name c.args.name.now) (g.S.Source.bytes c.args.source.now c.args.name.now)
    (g.W.Write.contents c.args.output.now) _ (g.E.Write.contents c.args.errors.now) _ c.display_name-label.result.now
    c.in-Ok.input.items c.as_slice.result.now (string_bytes c.in-Ok-answer_to.answer.text)
    c.in-Ok-answer_to.answer.status c.display_name-label.ensures c.in-Ok.ensures c.as_slice.ensures.value
    c.in-Ok-answer_to.ensures _ _ c.if-answer-ne-WRITTEN.false c.as_bytes-2.ensures.value c.write_all-2.ensures.front
    c.tell_failure-in-Err-write_all.ensures.status c.tell_failure-in-Err-write_all.ensures.told
