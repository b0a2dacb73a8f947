use Rattle.std.proofs.Common.{◌<◌, ◌∙◌, length, sym, ap, subst, ℕ, refl}
use Rattle.std.specs.List.{slice_get}
use Rattle.basic_toml_value.specs.Growth.{with_value, values_of}
use Rattle.basic_toml_value.proofs.KeysSeen.{seen-set, texts_of-set, length-seen, value_at_position}
use Rattle.basic_toml_value.proofs.pairs.Pairs.value_mut.Goals as goal

pub invariant_of-self-lent : goal.invariant_of-self-lent
invariant_of-self-lent g c w =
    let within : c.args.position < length c.self.inside.entries.items =
    subst (λ (n : ℕ). c.args.position < n) (ap length (sym c.self.view_is) ∙ length-seen c.self.inside.entries.items) c.requires
    in
    rw (texts_of-set c.self.inside.entries.items c.args.position c.index_mut-pair.result.now w within
    c.index_mut-pair.ensures.value) c.self.invariant

pub returns : goal.returns
returns g c =
    let within : c.args.position < length c.self.inside.entries.items =
    subst (λ (n : ℕ). c.args.position < n) (ap length (sym c.self.view_is) ∙ length-seen c.self.inside.entries.items) c.requires
    in (
      (
        refl,
        λ w. seen-set c.self.inside.entries.items c.args.position c.index_mut-pair.result.now w within
            c.index_mut-pair.ensures.value ∙ ap (λ ps. with_value ps c.args.position w) c.self.view_is,
      ),
      record {
        changed = tt;
        value = ap (λ ps. slice_get (values_of ps) c.args.position) (sym c.self.view_is)
            ∙ value_at_position c.self.inside.entries.items c.args.position c.index_mut-pair.result.now within
            c.index_mut-pair.ensures.value;
      },
    )
