use Rattle.basic_toml_typed.proofs.TextNumbers.{same_text}
use Rattle.basic_toml_typed.proofs.laws.text_numbers_differ.Goals as goal

pub returns : goal.returns
returns c = same_text
