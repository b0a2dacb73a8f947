use Rattle.basic_toml_tree.specs.Nodes.{node_data, entries_in, entries_left}
use Rattle.basic_toml_serde.specs.Added.{with_keys}
use Rattle.basic_toml_serde.specs.Parts.{key_of, data_of}
use Rattle.basic_toml_serde.proofs.PartsAdded.{IsAddedSoFar}
use Rattle.basic_toml_serde.proofs.part.add_entries.Given as goal

abbrev pub invariant-loop-key : goal.invariant-loop-key
invariant-loop-key l =
    IsAddedSoFar key_of data_of (with_keys (entries_in (node_data l.fn.table))) l.fn.list.items l.list.items
    (with_keys (entries_left l.key-iterator))
