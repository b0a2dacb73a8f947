use Rattle.std.proofs.Common.{◌≡◌, rules, arith, ◌*◌, length, ap, sym, subst, IfErr}
use Rattle.json.specs.Json as json
use Rattle.json.specs.Json.{Json}
use Rattle.toml_from_json.specs.Meaning.{IsRefused, data_of}
use Rattle.json.specs.Tree.{json_tokens}
use Rattle.json.specs.Value as j
use Rattle.json.specs.Value.{value_view}
use Rattle.json.proofs.Trees.{item_smaller, member_smaller}
use Rattle.toml_from_json.proofs.PartsInTurn.{elements_step, elements_end, members_step, members_end, object_seen}
use Rattle.toml_from_json.proofs.tree.+values.Goals as goal

pub elements_of-value_of-requires : goal.elements_of-value_of-requires
elements_of-value_of-requires t c =
    let smaller = item_smaller c.args.values.now c.loop-i.i c.index-values-i.result c.loop-i-test.true in
    (rw c.index-values-i.is (omega arith), tt)

pub elements_of-loop-i-preserved : goal.elements_of-loop-i-preserved
elements_of-loop-i-preserved t c =
    elements_step c.args.form c.args.values.now c.loop-i.i c.index-values-i.result c.loop-i-test.true
    c.index-values-i.is c.loop-i.elements.items c.push.new.self.items c.in_ok-element.element _
    c.in_ok-element.ensures.ok (search rules) c.loop-i.invariant

pub elements_of-returns-clause-ok : goal.elements_of-returns-clause-ok
elements_of-returns-clause-ok t c =
    elements_end c.args.form c.args.values.now c.loop-i.i c.loop-i.elements.items _ c.loop-i-test.false c.loop-i.invariant

pub members_of-member_of-requires : goal.members_of-member_of-requires
members_of-member_of-requires t c =
    let smaller = member_smaller c.args.members.now c.loop-i.i c.index-members-i.result c.loop-i-test.true in
    (rw c.index-members-i.is (omega arith), tt)

pub members_of-loop-i-preserved : goal.members_of-loop-i-preserved
members_of-loop-i-preserved t c =
    members_step c.args.form c.args.members.now c.loop-i.i c.index-members-i.result c.loop-i-test.true
    c.index-members-i.is c.loop-i.table c.put.new.table c.in_ok-value.value _ c.in_ok-value.ensures.ok
    c.in_ok-put.ensures.new c.in_ok-put.ensures.put c.loop-i.invariant

pub members_of-returns-clause-ok : goal.members_of-returns-clause-ok
members_of-returns-clause-ok t c =
    members_end c.args.form c.args.members.now c.loop-i.i c.loop-i.table _ c.loop-i-test.false c.loop-i.invariant

pub value_of-object_of-requires : goal.value_of-object_of-requires
value_of-object_of-requires t c =
    let seen : value_view c.args.json.now ≡ json.object (j.members_view c.as_slice-in-Object.result.now) =
    search (rules, object_seen)
    in
    let longer = ap (λ (x : Json). 2 * length (json_tokens x)) seen in
    (rw (sym c.decreases) (omega arith), tt)

pub value_of-returns-in-Object-clause-ok : goal.value_of-returns-in-Object-clause-ok
value_of-returns-in-Object-clause-ok t c = search (rules, object_seen)

pub value_of-returns-in-Object-clause-err : goal.value_of-returns-in-Object-clause-err
value_of-returns-in-Object-clause-err t c =
    let seen : value_view c.args.json.now ≡ json.object (j.members_view c.as_slice-in-Object.result.now) =
    search (rules, object_seen)
    in
    subst (λ (x : Json). IfErr c.object_of.result (IsRefused (data_of c.args.form x))) (sym seen) c.object_of.ensures.err
