use Rattle.std.proofs.Common.{string_bytes}
use Rattle.toml_get.proofs.FrontsAreLongest.{key_missing, front_there}
use Rattle.toml_get.proofs.nothing.there_text.Goals as goal

pub returns-then-count-eq0 : goal.returns-then-count-eq0
returns-then-count-eq0 c =
    key_missing c.args.steps.now c.args.count (string_bytes c.in_ok-key.key) c.format.result c.if-count-eq0.true
    c.in_ok-key.ensures c.format.ensures.ok

pub returns : goal.returns
returns c =
    front_there c.args.steps.now c.args.count (string_bytes c.in_ok-front.front) c.format-2.result
    c.if-count-eq0.false c.in_ok-front.ensures c.format-2.ensures.ok
