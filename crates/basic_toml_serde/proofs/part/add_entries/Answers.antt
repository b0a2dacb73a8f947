use Rattle.std.proofs.Common.{ap, sym}
use Rattle.basic_toml_tree.specs.Nodes.{node_data, entries_in, entries_left}
use Rattle.basic_toml_serde.specs.Added.{with_keys}
use Rattle.basic_toml_serde.specs.Parts.{key_of, data_of}
use Rattle.basic_toml_serde.proofs.PartsAdded.{none_added, one_added, all_added}
use Rattle.basic_toml_serde.proofs.part.add_entries.Goals as goal

pub loop-key-init : goal.loop-key-init
loop-key-init c =
    rw c.into_iter-key-iterator.ensures.into_iter_gives
    (none_added key_of data_of _ _ _ (ap with_keys (sym c.in-Some.ensures.entries.1)))

pub loop-key-preserved : goal.loop-key-preserved
loop-key-preserved c =
    one_added key_of data_of (with_keys (entries_in (node_data c.args.table)))
    (with_keys (entries_left c.loop-key.key-iterator)) (with_keys (entries_left c.next.new.self))
    c.args.list.now.items c.loop-key.list.items _ _ c.loop-key.invariant c.in_ok-push.ensures.items
    (ap with_keys c.in-Some-2.ensures.steps.0)

pub returns : goal.returns
returns c = all_added key_of data_of _ _ _ _ c.loop-key.invariant (ap with_keys c.in-None.ensures.steps.0.0)
