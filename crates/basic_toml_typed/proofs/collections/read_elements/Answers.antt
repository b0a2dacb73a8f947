use Rattle.std.proofs.Common.{rules}
use Rattle.basic_toml_typed.proofs.ArraysRead.{one_read, all_read, element_refused, element_fails}
use Rattle.basic_toml_typed.proofs.collections.read_elements.Goals as goal

pub returns-in_err-deserialize-clause-err : goal.returns-in_err-deserialize-clause-err
returns-in_err-deserialize-clause-err g c =
    let refused = element_refused g.T.Deserialize.takes g.T.Deserialize.reads c.args.node c.loop-element.element-iterator
    c.next.new.self c.loop-element.values.items c.in-Some-element.element _ c.loop-element.invariant
    c.in-Some-element.ensures.steps c.in_err-deserialize.ensures.err in
    search (rules, refused)

pub returns-in_err-deserialize-clause-named : goal.returns-in_err-deserialize-clause-named
returns-in_err-deserialize-clause-named g c =
    let fails = element_fails g.T.Deserialize.faults g.T.Deserialize.reads c.args.node _ c.loop-element.element-iterator
    c.next.new.self c.loop-element.values.items c.in-Some-element.element c.loop-element.invariant
    c.in-Some-element.ensures.steps c.in_err-deserialize.ensures.named in
    search (rules, fails)

pub loop-element-preserved : goal.loop-element-preserved
loop-element-preserved g c =
    let read = one_read g.T.Deserialize.takes g.T.Deserialize.reads c.args.node c.loop-element.element-iterator
    c.next.new.self c.loop-element.values.items c.in-Some-element.element c.in_ok-deserialize.field-0
    c.loop-element.invariant c.in-Some-element.ensures.steps c.in_ok-deserialize.ensures.ok in
    rw c.in-Ok.ensures.items read

pub returns-clause-ok : goal.returns-clause-ok
returns-clause-ok g c =
    all_read g.T.Deserialize.takes g.T.Deserialize.reads c.args.node c.loop-element.element-iterator
    c.loop-element.values c.in-Some.ensures.elements.0 c.loop-element.invariant c.in-None.ensures.steps.0.0
