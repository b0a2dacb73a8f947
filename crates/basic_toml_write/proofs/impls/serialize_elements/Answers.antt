use Rattle.std.proofs.Common.{take, drop, suc, subst}
use Rattle.std.proofs.lemmas.Result.{err_from_is_err_and}
use Rattle.std.specs.List.{AllByRecursion}
use Rattle.basic_toml_emit.specs.Items.{open_array, element_prefix}
use Rattle.basic_toml_write.proofs.PartsAreSent.{Sent, all_more, where_ok, take_all, take_more, take_split, parts_unopened, parts_next}
use Rattle.basic_toml_write.proofs.PartsAreSent.{parts_fault, parts_closed, memory_unopened, memory_once_open}
use Rattle.basic_toml_write.proofs.ItemsGrow.{array_grows}
use Rattle.basic_toml_write.proofs.impls.serialize_elements.Goals as goal

pub returns-in_err-serialize_seq-clause-sends : goal.returns-in_err-serialize_seq-clause-sends
returns-in_err-serialize_seq-clause-sends g c =
    let p = err_from_is_err_and c.from_residual.result c.from_residual.ensures.1 in
    rw (p.1, p.2) (parts_unopened open_array (λ x. element_prefix) g.T.Serialize.calls g.T.Serialize.gives_up
    c.args.elements.now c.args.ser.now c.serialize_seq.new.self _ c.in_err-serialize_seq.ensures.takes)

pub returns-in_err-serialize_element-clause-sends : goal.returns-in_err-serialize_element-clause-sends
returns-in_err-serialize_element-clause-sends g c =
    let p = err_from_is_err_and c.from_residual-in_err-serialize_element.result
    c.from_residual-in_err-serialize_element.ensures.1 in
    rw (p.1, p.2) (parts_fault open_array (λ x. element_prefix) g.T.Serialize.calls g.T.Serialize.gives_up
    c.args.elements.now (take c.loop-element.element-index c.args.elements.now) c.element-item.result
    (drop (suc c.loop-element.element-index) c.args.elements.now)
    (take_split c.args.elements.now c.loop-element.element-index c.element-item.result c.loop-element-test.true
    c.element-item.is) c.args.ser.now c.loop-element.ser c.serialize_element.new.self _ c.loop-element.invariant.sent
    c.in_err-serialize_element.ensures.passes)

pub loop-element-preserved : goal.loop-element-preserved
loop-element-preserved g c =
    let before = take c.loop-element.element-index c.args.elements.now in
    let more = take_more c.args.elements.now c.loop-element.element-index c.element-item.result
    c.loop-element-test.true c.element-item.is in
    record {
      sent = subst (λ ps. Sent open_array (λ x. element_prefix) g.T.Serialize.calls g.T.Serialize.gives_up ps
          c.args.ser.now c.serialize_element.new.self) more
          (parts_next open_array (λ x. element_prefix) g.T.Serialize.calls g.T.Serialize.gives_up before
          c.element-item.result c.args.ser.now c.loop-element.ser c.serialize_element.new.self
          c.loop-element.invariant.sent c.in_ok-serialize_element.ensures.passes);
      held = subst (AllByRecursion g.T.Serialize.holds) more
          (all_more g.T.Serialize.holds before c.element-item.result c.loop-element.invariant.held
          c.in_ok-serialize_element.ensures.holds);
    }

pub returns-clause-sends : goal.returns-clause-sends
returns-clause-sends g c = parts_closed open_array (λ x. element_prefix) g.T.Serialize.calls g.T.Serialize.gives_up
    c.args.elements.now (take c.loop-element.element-index c.args.elements.now)
    (take_all c.args.elements.now c.loop-element.element-index c.loop-element-test.false) c.args.ser.now
    c.loop-element.ser c.end.new.self c.end.result c.loop-element.invariant.sent c.end.ensures.takes

pub returns-clause-holds : goal.returns-clause-holds
returns-clause-holds g c =
    where_ok c.end.result (subst (AllByRecursion g.T.Serialize.holds)
    (take_all c.args.elements.now c.loop-element.element-index c.loop-element-test.false)
    c.loop-element.invariant.held)

pub returns-in_err-serialize_seq-clause-memory : goal.returns-in_err-serialize_seq-clause-memory
returns-in_err-serialize_seq-clause-memory g c =
    let p = err_from_is_err_and c.from_residual.result c.from_residual.ensures.1 in
    rw (p.1, p.2) (memory_unopened open_array (λ x. element_prefix) g.T.Serialize.calls g.T.Serialize.gives_up
    c.args.elements.now c.args.ser.now c.serialize_seq.new.self _ c.in_err-serialize_seq.ensures.takes)

pub returns-in_err-serialize_element-clause-memory : goal.returns-in_err-serialize_element-clause-memory
returns-in_err-serialize_element-clause-memory g c =
    memory_once_open open_array (λ x. element_prefix) g.T.Serialize.calls g.T.Serialize.gives_up array_grows
    c.args.elements.now c.args.ser.now c.serialize_seq.new.self c.in_ok-serialize_seq.ensures.takes _ _

pub returns-clause-memory : goal.returns-clause-memory
returns-clause-memory g c =
    memory_once_open open_array (λ x. element_prefix) g.T.Serialize.calls g.T.Serialize.gives_up array_grows
    c.args.elements.now c.args.ser.now c.serialize_seq.new.self c.in_ok-serialize_seq.ensures.takes _ _
