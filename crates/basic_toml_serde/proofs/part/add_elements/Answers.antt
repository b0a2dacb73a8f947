use Rattle.std.proofs.Common.{ap, sym}
use Rattle.basic_toml_tree.specs.Nodes.{node_data, elements_in, elements_left}
use Rattle.basic_toml_serde.specs.Added.{without_keys}
use Rattle.basic_toml_serde.specs.Parts.{key_of, data_of}
use Rattle.basic_toml_serde.proofs.PartsAdded.{none_added, one_added, all_added}
use Rattle.basic_toml_serde.proofs.part.add_elements.Goals as goal

pub loop-element-init : goal.loop-element-init
loop-element-init c =
    rw c.into_iter-element-iterator.ensures.into_iter_gives
    (none_added key_of data_of _ _ _ (ap without_keys (sym c.in-Some.ensures.elements.1)))

pub loop-element-preserved : goal.loop-element-preserved
loop-element-preserved c =
    one_added key_of data_of (without_keys (elements_in (node_data c.args.array)))
    (without_keys (elements_left c.loop-element.element-iterator)) (without_keys (elements_left c.next.new.self))
    c.args.list.now.items c.loop-element.list.items _ _ c.loop-element.invariant c.in_ok-push.ensures.items
    (ap without_keys c.in-Some-element.ensures.steps.0)

pub returns : goal.returns
returns c = all_added key_of data_of _ _ _ _ c.loop-element.invariant (ap without_keys c.in-None.ensures.steps.0.0)
