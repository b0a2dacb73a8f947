use Rattle.json_toml.specs.Run.{not_utf8}
use Rattle.json_toml.proofs.answer.answer_to.Goals as goal

pub returns-in_ok-no_text-in-Err : goal.returns-in_ok-no_text-in-Err
returns-in_ok-no_text-in-Err c = not_utf8 c.in-Err.ensures c.in_ok-no_text-in-Err.ensures
