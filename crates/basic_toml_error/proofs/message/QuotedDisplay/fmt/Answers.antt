use Rattle.std.proofs.Common.{◌++◌, refl}
use Rattle.std.proofs.lemmas.Grind.{put_two}
use Rattle.std.proofs.Math.Utf8.{encode}
use Rattle.basic_toml_error.specs.NodeFaults.{escaped_quotes}
use Rattle.basic_toml_error.proofs.EscapedQuotes.{quoted_step}
use Rattle.basic_toml_error.proofs.message.QuotedDisplay.fmt.Goals as goal

pub loop-c-preserved : goal.loop-c-preserved
loop-c-preserved g c plain =
    let (written, done, left) = c.loop-c.invariant plain in (
      written ++ escaped_quotes (encode c.in-Some.c),
      put_two _ _ _ _ _ _ _ done (c.in_ok-write.ensures.writes done.plain refl) refl,
      quoted_step c.in-Some.c written _ _ _ c.in-Some.ensures.steps.0 left,
    )
