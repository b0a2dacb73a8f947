use Rattle.basic_toml.proofs.RefusedTextsHaveNoDocument.{refused_has_no_document}
use Rattle.basic_toml.proofs.laws.refused_texts_have_no_document.Goals as goal

pub returns : goal.returns
returns c = refused_has_no_document
