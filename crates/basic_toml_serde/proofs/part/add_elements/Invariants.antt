use Rattle.basic_toml_tree.specs.Nodes.{node_data, elements_in, elements_left}
use Rattle.basic_toml_serde.specs.Added.{without_keys}
use Rattle.basic_toml_serde.specs.Parts.{key_of, data_of}
use Rattle.basic_toml_serde.proofs.PartsAdded.{IsAddedSoFar}
use Rattle.basic_toml_serde.proofs.part.add_elements.Given as goal

abbrev pub invariant-loop-element : goal.invariant-loop-element
invariant-loop-element l =
    IsAddedSoFar key_of data_of (without_keys (elements_in (node_data l.fn.array))) l.fn.list.items l.list.items
    (without_keys (elements_left l.element-iterator))
