use Rattle.toml_check.proofs.VerdictsAreSaid.{unread_said}
use Rattle.toml_check.proofs.run.verdict_on_bytes.Goals as goal

pub returns-in-Err : goal.returns-in-Err
returns-in-Err c = unread_said c.args.is_quiet c.args.name.now c.args.bytes.now c.unread.result c.unread.ensures
