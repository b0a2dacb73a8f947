use Rattle.std.proofs.Common.{subst}
use Rattle.toml_streams.specs.Streams.{display_name}
use Rattle.toml_json.specs.Run.{IsAnswer}
use Rattle.toml_json.proofs.RunEnds.{json_written, json_cut, refusal_written, refusal_cut}
use Rattle.toml_json.proofs.run.run.Goals as goal

pub returns-in-Ok-write_all : goal.returns-in-Ok-write_all
returns-in-Ok-write_all g c =
    json_written c.args.style (display_name c.args.name.now) (g.S.Source.bytes c.args.source.now c.args.name.now)
    (g.W.Write.contents c.args.output.now) _ (g.E.Write.contents c.args.errors.now) (g.E.Write.contents c.args.errors.now)
    c.display_name-label.result.now c.in-Ok.input.items c.as_slice.result.now _ c.display_name-label.ensures c.in-Ok.ensures
    c.as_slice.ensures.value _
    (subst (IsAnswer c.args.style c.display_name-label.result.now c.as_slice.result.now) c.in-Json.is
    c.in-Ok-answer_to.ensures) c.as_bytes.ensures.value c.in-Ok-write_all.ensures.ok

pub returns-in-Json : goal.returns-in-Json
returns-in-Json g c =
    json_cut c.args.style (display_name c.args.name.now) (g.S.Source.bytes c.args.source.now c.args.name.now)
    (g.W.Write.contents c.args.output.now) _ (g.E.Write.contents c.args.errors.now) _
    c.display_name-label.result.now c.in-Ok.input.items c.as_slice.result.now _ c.display_name-label.ensures c.in-Ok.ensures
    c.as_slice.ensures.value _ _
    (subst (IsAnswer c.args.style c.display_name-label.result.now c.as_slice.result.now) c.in-Json.is
    c.in-Ok-answer_to.ensures) c.as_bytes.ensures.value c.write_all.ensures.front
    c.tell_failure-in-Err-write_all.ensures.status c.tell_failure-in-Err-write_all.ensures.told

pub returns-in-Ok-write_all-2 : goal.returns-in-Ok-write_all-2
returns-in-Ok-write_all-2 g c =
    refusal_written c.args.style (display_name c.args.name.now) (g.S.Source.bytes c.args.source.now c.args.name.now)
    (g.W.Write.contents c.args.output.now) (g.W.Write.contents c.args.output.now) (g.E.Write.contents c.args.errors.now) _
    c.display_name-label.result.now c.in-Ok.input.items c.as_slice.result.now _ c.display_name-label.ensures c.in-Ok.ensures
    c.as_slice.ensures.value _
    (subst (IsAnswer c.args.style c.display_name-label.result.now c.as_slice.result.now) c.in-Refused.is
    c.in-Ok-answer_to.ensures) c.as_bytes-in-Refused.ensures.value c.in-Ok-write_all-2.ensures.ok

pub returns : goal.returns
returns g c =
    refusal_cut c.args.style (display_name c.args.name.now) (g.S.Source.bytes c.args.source.now c.args.name.now)
    (g.W.Write.contents c.args.output.now) (g.W.Write.contents c.args.output.now) (g.E.Write.contents c.args.errors.now) _
    c.display_name-label.result.now c.in-Ok.input.items c.as_slice.result.now _ c.display_name-label.ensures c.in-Ok.ensures
    c.as_slice.ensures.value _
    (subst (IsAnswer c.args.style c.display_name-label.result.now c.as_slice.result.now) c.in-Refused.is
    c.in-Ok-answer_to.ensures) c.as_bytes-in-Refused.ensures.value c.write_all-in-Refused.ensures.front
