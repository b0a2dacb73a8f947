use Rattle.std.proofs.Common.{◌∙◌}
use Rattle.basic_toml_tree.specs.Nodes.{entries_left, key_and_data}
use Rattle.basic_toml_typed.proofs.NamesListed.{passes_listed, stops_at_other}
use Rattle.basic_toml_typed.proofs.fields.other_key.Goals as goal

pub returns-then-is_none : goal.returns-then-is_none
returns-then-is_none c =
    stops_at_other c.args.fields.now (entries_left c.loop-key.key-iterator) (entries_left c.next.new.self)
    (key_and_data (c.in-Some.key, c.in-Some.field-0-1)) c.position_of.result c.in-Some.ensures.steps.0 c.position_of.ensures
    c.if-is_none.ensures ∙ c.loop-key.invariant

pub loop-key-preserved : goal.loop-key-preserved
loop-key-preserved c =
    passes_listed c.args.fields.now (entries_left c.loop-key.key-iterator) (entries_left c.next.new.self)
    (key_and_data (c.in-Some.key, c.in-Some.field-0-1)) c.position_of.result c.in-Some.ensures.steps.0 c.position_of.ensures
    c.if-is_none.ensures ∙ c.loop-key.invariant
