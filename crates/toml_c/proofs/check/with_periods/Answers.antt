use Rattle.toml_c.proofs.KeysJoined.{made}
use Rattle.toml_c.proofs.check.with_periods.Goals as goal

pub returns : goal.returns
returns c = made c.args.keys.now c.join.result c.join.ensures.ok
