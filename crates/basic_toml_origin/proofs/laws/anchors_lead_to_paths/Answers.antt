use Rattle.basic_toml_origin.proofs.AnchorsLead.{lead}
use Rattle.basic_toml_origin.proofs.laws.anchors_lead_to_paths.Goals as goal

pub returns : goal.returns
returns c = lead
