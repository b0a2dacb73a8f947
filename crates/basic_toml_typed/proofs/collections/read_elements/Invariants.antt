use Rattle.basic_toml_typed.proofs.ArraysRead.{IsReadSoFar}
use Rattle.basic_toml_typed.proofs.collections.read_elements.Given as goal

abbrev pub invariant-loop-element : goal.invariant-loop-element
invariant-loop-element g l = IsReadSoFar g.T.Deserialize.reads l.fn.node l.element-iterator l.values.items
