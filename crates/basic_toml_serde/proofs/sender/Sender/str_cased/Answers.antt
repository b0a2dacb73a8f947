use Rattle.std.proofs.Common.{◌≡◌, rules}
use Rattle.serde.specs.declared.name.Case.TheVariants.{AsIs}
use Rattle.basic_toml_serde.proofs.EventsAreSent.{variant_as_is}
use Rattle.basic_toml_serde.proofs.sender.Sender.str_cased.Goals as goal

pub returns-then-eq : goal.returns-then-eq
returns-then-eq g c =
    let same : c.args.case ≡ AsIs = search rules in
    variant_as_is g.S.Sink.has_recorded c.args.name.now c.args.case c.args.self.now c.value.new.self c.value.result same
    c.value.ensures
