use Rattle.basic_toml_serde.proofs.ItemsAreTaken.{refused_first}
use Rattle.basic_toml_serde.proofs.refused.first_refused.Goals as goal

pub returns-then-not-is_taken : goal.returns-then-not-is_taken
returns-then-not-is_taken c =
    refused_first c.args.items.now c.loop-item.item-index c.item-item.result c.loop-item.ser c.is_taken.new.ser
    c.kept_error.result c.loop-item.trail c.in_ok-into_keys.field-0
    (c.loop-item-test.true, c.item-item.is) c.loop-item.invariant.taken c.loop-item.invariant.behind
    c.if-not-is_taken.ensures c.kept_error.ensures c.in_ok-into_keys.ensures
