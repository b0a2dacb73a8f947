use Rattle.std.proofs.Common.{◌<◌, length, subst, arith}
use Rattle.basic_toml_open_keys.specs.Kept.{kept_of}
use Rattle.basic_toml_open_keys.specs.PresentKeys.{pending_of}
use Rattle.basic_toml_open_keys.proofs.FirstKeys.{keys_next}
use Rattle.basic_toml_open_keys.proofs.open_keys.OpenKeys.enter.Goals as goal

pub returns-then-self-len-clause-keys : goal.returns-then-self-len-clause-keys
returns-then-self-len-clause-keys c =
    let old = c.args.self.now in
    let more : old.count < length (kept_of old.known.names) =
    subst (λ names. old.count < length (kept_of names)) c.names.ensures (omega arith) in
    λ _. keys_next (kept_of old.known.names) old.count (pending_of old.known) more
