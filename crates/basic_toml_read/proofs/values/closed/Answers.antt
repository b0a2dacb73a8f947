use Rattle.basic_toml_read.proofs.Common.{refl, text_at}
use Rattle.basic_toml_read.proofs.values.closed.Goals as goal
use Rattle.basic_toml_read.proofs.LeftAfter.{sign_missing}

pub returns-in-None-clause-read : goal.returns-in-None-clause-read
returns-in-None-clause-read c = (sign_missing c.args.sign (text_at c.args.text.now c.args.at) c.in-None.ensures, refl)
