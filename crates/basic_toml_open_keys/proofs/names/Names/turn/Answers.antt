use Rattle.std.proofs.Common.{string_bytes}
use Rattle.basic_toml_open_keys.proofs.Turned.{places_turned}
use Rattle.basic_toml_open_keys.proofs.names.Names.turn.Goals as goal

pub invariant_of-self-clause-fit : goal.invariant_of-self-clause-fit
invariant_of-self-clause-fit c =
    let old = c.args.self.now in
    places_turned (string_bytes old.text) old.held old.places.items c.swap.new.self.items c.args.position
    c.swap.ensures.items c.requires old.fit
