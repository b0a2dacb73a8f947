use Rattle.basic_toml_typed.proofs.MapsRead.{IsReadSoFar}
use Rattle.basic_toml_typed.proofs.collections.read_entries.Given as goal

abbrev pub invariant-loop-key : goal.invariant-loop-key
invariant-loop-key g l = IsReadSoFar g.T.Deserialize.reads l.fn.node l.key-iterator l.map
