use Rattle.basic_toml.proofs.TextHasOneDocument.{one_document}
use Rattle.basic_toml.proofs.laws.texts_have_one_document.Goals as goal

pub returns : goal.returns
returns c = one_document
