use Rattle.std.proofs.Common.{arith, string_bytes}
use Rattle.basic_toml_value.proofs.Sizes.{data_size-at, data_size-pair}
use Rattle.toml_json_text.proofs.PartsInTurn.{elements_step, members_step}
use Rattle.toml_json_text.proofs.tree.+values.Goals as goal

pub push_elements-push_value-requires : goal.push_elements-push_value-requires
push_elements-push_value-requires t c =
    let smaller = data_size-at c.args.values.now c.loop-i.i c.index-values-i.result c.loop-i-test.true c.index-values-i.is in
    (omega arith, tt)

pub push_elements-loop-i-preserved : goal.push_elements-loop-i-preserved
push_elements-loop-i-preserved t c =
    elements_step c.args.form c.args.layout c.args.level c.loop-i.is_later (string_bytes c.loop-i.text)
    (string_bytes c.push_separator.new.text) _ c.args.values.now c.loop-i.i c.index-values-i.result c.loop-i-test.true
    c.index-values-i.is c.in_ok-below.below c.in_ok-below.ensures (string_bytes c.push_value.new.text)
    c.in_ok-push_separator.ensures c.in_ok-push_value.ensures c.loop-i.invariant

pub push_members-push_member-requires : goal.push_members-push_member-requires
push_members-push_member-requires t c =
    let smaller = data_size-pair c.args.pairs.now c.loop-i.i c.index-pairs-i.result c.loop-i-test.true c.index-pairs-i.is
    in
    (omega arith, tt)

pub push_members-loop-i-preserved : goal.push_members-loop-i-preserved
push_members-loop-i-preserved t c =
    members_step c.args.form c.args.layout c.args.level c.loop-i.is_later (string_bytes c.loop-i.text)
    (string_bytes c.push_member.new.text) _ c.args.pairs.now c.loop-i.i c.index-pairs-i.result c.loop-i-test.true
    c.index-pairs-i.is c.in_ok-below.below c.in_ok-below.ensures c.in_ok-push_member.ensures c.loop-i.invariant
