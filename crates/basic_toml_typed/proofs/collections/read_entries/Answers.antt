use Rattle.std.proofs.Common.{rules}
use Rattle.basic_toml_typed.proofs.MapsRead.{none_read, entry_read, entry_refused, entry_fails}
use Rattle.basic_toml_typed.proofs.collections.read_entries.Goals as goal

pub returns-in_err-value-clause-err : goal.returns-in_err-value-clause-err
returns-in_err-value-clause-err g c =
    let refused = entry_refused g.T.Deserialize.reads c.args.node g.T.Deserialize.takes c.loop-key.key-iterator
    c.next.new.self c.loop-key.map c.in-Some-2.key c.in-Some-2.child _ c.loop-key.invariant c.in-Some-2.ensures.steps
    c.in_err-value.ensures.err in
    search (rules, refused)

pub returns-in_err-value-clause-named : goal.returns-in_err-value-clause-named
returns-in_err-value-clause-named g c =
    let fails = entry_fails g.T.Deserialize.faults g.T.Deserialize.reads c.args.node _ c.loop-key.key-iterator
    c.next.new.self c.loop-key.map c.in-Some-2.key c.in-Some-2.child c.loop-key.invariant c.in-Some-2.ensures.steps
    c.in_err-value.ensures.named in
    search (rules, fails)

pub loop-key-preserved-in-Ok : goal.loop-key-preserved-in-Ok
loop-key-preserved-in-Ok g c =
    entry_read g.T.Deserialize.reads c.args.node c.loop-key.key-iterator c.next.new.self _ _ c.in-Some-2.key
    c.in-Some-2.child c.in_ok-from_str.field-0 c.in_ok-value.value c.loop-key.invariant c.in-Some-2.ensures.steps
    c.in_ok-from_str.ensures.ok c.in-Ok.ensures.updates c.in_ok-value.ensures.ok

pub loop-key-preserved-in-Ok-2 : goal.loop-key-preserved-in-Ok-2
loop-key-preserved-in-Ok-2 g c =
    entry_read g.T.Deserialize.reads c.args.node c.loop-key.key-iterator c.next.new.self _ _ c.in-Some-2.key
    c.in-Some-2.child c.in_ok-from_str.field-0 c.in_ok-value.value c.loop-key.invariant c.in-Some-2.ensures.steps
    c.in_ok-from_str.ensures.ok c.in-Ok.ensures.updates c.in_ok-value.ensures.ok

pub loop-key-init : goal.loop-key-init
loop-key-init g c =
    rw c.into_iter-key-iterator.ensures.into_iter_gives
    (none_read g.T.Deserialize.reads c.args.node c.in-Some.entries c.new-map.result c.in-Some.ensures.stand
    c.in-Some.ensures.entries.1 c.new-map.ensures.empty c.in-Some.ensures.distinct)
