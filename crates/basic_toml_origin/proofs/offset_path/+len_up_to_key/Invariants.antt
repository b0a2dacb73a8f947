use Rattle.std.proofs.Common.{length}
use Rattle.basic_toml_origin.proofs.offset_path.+len_up_to_key.Given as goal

abbrev pub decreases-len_up_to_key : goal.decreases-len_up_to_key
decreases-len_up_to_key l = length l.path.now
