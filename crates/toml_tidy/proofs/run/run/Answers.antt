use Rattle.toml_streams.specs.Streams.{display_name}
use Rattle.toml_tidy.proofs.RunEnds.{all_written, front_written}
use Rattle.toml_tidy.proofs.run.run.Goals as goal

pub returns-in-Ok-write_all : goal.returns-in-Ok-write_all
returns-in-Ok-write_all g c =
    all_written c.args.form (display_name c.args.name.now) (g.S.Source.bytes c.args.source.now c.args.name.now)
    (g.W.Write.contents c.args.output.now) _ (g.E.Write.contents c.args.errors.now)
    (g.E.Write.contents c.args.errors.now) c.in-Ok.input.items _ _ _ c.in-Ok-answer.status c.in-Ok.ensures
    c.as_slice.ensures.value c.in-Ok-answer.ensures c.as_bytes.ensures.value c.in-Ok-write_all.ensures.ok

pub returns : goal.returns
returns g c =
    front_written c.args.form (display_name c.args.name.now) (g.S.Source.bytes c.args.source.now c.args.name.now)
    (g.W.Write.contents c.args.output.now) _ (g.E.Write.contents c.args.errors.now) _ c.in-Ok.input.items _ _ _
    c.in-Ok-answer.status _ c.in-Ok.ensures c.as_slice.ensures.value c.in-Ok-answer.ensures c.as_bytes.ensures.value
    c.write_all.ensures.front c.tell_failure-in-Err-write_all.ensures.status c.tell_failure-in-Err-write_all.ensures.told
