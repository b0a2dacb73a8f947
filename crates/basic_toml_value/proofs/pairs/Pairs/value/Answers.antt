use Rattle.std.proofs.Common.{◌<◌, ◌∙◌, length, sym, ap, subst, ℕ}
use Rattle.std.specs.List.{slice_get}
use Rattle.basic_toml_value.specs.Growth.{values_of}
use Rattle.basic_toml_value.proofs.KeysSeen.{value_at_position, length-seen}
use Rattle.basic_toml_value.proofs.pairs.Pairs.value.Goals as goal

pub returns : goal.returns
returns g c =
    let within : c.args.position < length c.self.inside.entries.items =
    subst (λ (n : ℕ). c.args.position < n) (ap length (sym c.self.view_is)
    ∙ length-seen c.self.inside.entries.items) c.requires
    in
    ap (λ ps. slice_get (values_of ps) c.args.position) (sym c.self.view_is)
    ∙ value_at_position c.self.inside.entries.items c.args.position c.index.result.now within c.index.ensures
