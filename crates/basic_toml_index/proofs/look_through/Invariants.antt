-- No key passed is the one looked for.
use Rattle.std.proofs.Common.{◌≡◌, drop}
use Rattle.basic_toml_index.specs.Keys.{is_among}
use Rattle.basic_toml_index.proofs.look_through.Given as goal

abbrev pub invariant-loop-position : goal.invariant-loop-position
invariant-loop-position g l =
    is_among (g.T.Texts.texts l.texts) l.key ≡ is_among (drop l.position (g.T.Texts.texts l.texts)) l.key
