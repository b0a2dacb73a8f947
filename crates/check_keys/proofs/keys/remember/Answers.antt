use Rattle.check_keys.proofs.KeysAreRemembered.{inserted}
use Rattle.check_keys.proofs.keys.remember.Goals as goal

pub returns : goal.returns
returns c =
    inserted c.args.seen.now c.insert.new.self c.args.parts c.in_ok-insert.field-0 c.in_ok-insert.ensures.added
    c.in_ok-insert.ensures.updates
