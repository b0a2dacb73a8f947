use Rattle.basic_toml_places.proofs.LawsHold.{begin_apart}
use Rattle.basic_toml_places.proofs.laws.values_begin_apart.Goals as goal

pub returns : goal.returns
returns c = begin_apart
