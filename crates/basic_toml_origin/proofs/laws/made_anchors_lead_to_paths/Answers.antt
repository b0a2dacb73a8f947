use Rattle.basic_toml_origin.proofs.AnchorsLead.{made_lead}
use Rattle.basic_toml_origin.proofs.laws.made_anchors_lead_to_paths.Goals as goal

pub returns : goal.returns
returns c = made_lead
