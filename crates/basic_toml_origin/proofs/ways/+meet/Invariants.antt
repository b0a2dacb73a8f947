use Rattle.std.proofs.Common.{length}
use Rattle.basic_toml_origin.proofs.ways.+meet.Given as goal

abbrev pub decreases-meet : goal.decreases-meet
decreases-meet l = length l.header.now
