use Rattle.std.proofs.Common.{map}
use Rattle.std.proofs.lemmas.Result.{err_from_is_err_and}
use Rattle.basic_toml_value.specs.Iter.{rest, pair_of}
use Rattle.basic_toml_emit.specs.Items.{open_table, field}
use Rattle.basic_toml_write.proofs.PartsAreSent.{yields_split, yields_next, yields_end, parts_unopened, parts_yield}
use Rattle.basic_toml_write.proofs.PartsAreSent.{parts_fault, parts_closed, memory_unopened, memory_once_open}
use Rattle.basic_toml_write.proofs.ItemsGrow.{table_grows}
use Rattle.basic_toml_write.proofs.impls.serialize_entries.Goals as goal

pub returns-in_err-serialize_map-clause-sends : goal.returns-in_err-serialize_map-clause-sends
returns-in_err-serialize_map-clause-sends g c =
    let p = err_from_is_err_and c.from_residual.result c.from_residual.ensures.1 in
    rw (p.1, p.2) (parts_unopened open_table (λ p. field p.0)
    (λ p. g.V.Serialize.calls p.1) (λ p. g.V.Serialize.gives_up p.1) c.args.pairs.now c.args.ser.now
    c.serialize_map.new.self _ c.in_err-serialize_map.ensures.takes)

pub returns-in_err-serialize_field-clause-sends : goal.returns-in_err-serialize_field-clause-sends
returns-in_err-serialize_field-clause-sends g c =
    let p = err_from_is_err_and c.from_residual-in_err-serialize_field.result
    c.from_residual-in_err-serialize_field.ensures.1 in
    rw (p.1, p.2) (parts_fault open_table (λ p. field p.0)
    (λ p. g.V.Serialize.calls p.1) (λ p. g.V.Serialize.gives_up p.1)
    c.args.pairs.now (map pair_of c.loop-key.yielded) (pair_of (c.in-Some.key, c.in-Some.value))
    (rest c.next.new.self) (yields_split pair_of c.args.pairs.now c.loop-key.yielded (rest c.loop-key.key-iterator)
    (rest c.next.new.self) c.next.result c.next.ensures.steps c.loop-key.invariant.left
    (c.in-Some.key, c.in-Some.value) c.in-Some.is) c.args.ser.now c.loop-key.ser c.serialize_field.new.self _
    c.loop-key.invariant.sent c.in_err-serialize_field.ensures.passes)

pub loop-key-preserved : goal.loop-key-preserved
loop-key-preserved g c = record {
  sent = parts_yield open_table (λ p. field p.0)
      (λ p. g.V.Serialize.calls p.1) (λ p. g.V.Serialize.gives_up p.1) pair_of
      c.loop-key.yielded (c.in-Some.key, c.in-Some.value) c.args.ser.now c.loop-key.ser c.serialize_field.new.self
      c.loop-key.invariant.sent c.in_ok-serialize_field.ensures.passes;
  left = yields_next pair_of c.args.pairs.now c.loop-key.yielded (rest c.loop-key.key-iterator) (rest c.next.new.self)
      c.next.result c.next.ensures.steps c.loop-key.invariant.left (c.in-Some.key, c.in-Some.value) c.in-Some.is;
}

pub returns-clause-sends : goal.returns-clause-sends
returns-clause-sends g c = parts_closed open_table (λ p. field p.0)
    (λ p. g.V.Serialize.calls p.1) (λ p. g.V.Serialize.gives_up p.1)
    c.args.pairs.now (map pair_of c.loop-key.yielded)
    (yields_end pair_of c.args.pairs.now c.loop-key.yielded (rest c.loop-key.key-iterator) (rest c.next.new.self)
    c.next.result c.next.ensures.steps c.loop-key.invariant.left c.in-None.is) c.args.ser.now c.loop-key.ser
    c.end.new.self c.end.result c.loop-key.invariant.sent c.end.ensures.takes

pub returns-in_err-serialize_map-clause-memory : goal.returns-in_err-serialize_map-clause-memory
returns-in_err-serialize_map-clause-memory g c =
    let p = err_from_is_err_and c.from_residual.result c.from_residual.ensures.1 in
    rw (p.1, p.2) (memory_unopened open_table (λ p. field p.0) (λ p. g.V.Serialize.calls p.1)
    (λ p. g.V.Serialize.gives_up p.1) c.args.pairs.now
    c.args.ser.now c.serialize_map.new.self _ c.in_err-serialize_map.ensures.takes)

pub returns-in_err-serialize_field-clause-memory : goal.returns-in_err-serialize_field-clause-memory
returns-in_err-serialize_field-clause-memory g c =
    memory_once_open open_table (λ p. field p.0) (λ p. g.V.Serialize.calls p.1)
    (λ p. g.V.Serialize.gives_up p.1) table_grows
    c.args.pairs.now c.args.ser.now c.serialize_map.new.self c.in_ok-serialize_map.ensures.takes _ _

pub returns-clause-memory : goal.returns-clause-memory
returns-clause-memory g c =
    memory_once_open open_table (λ p. field p.0) (λ p. g.V.Serialize.calls p.1)
    (λ p. g.V.Serialize.gives_up p.1) table_grows
    c.args.pairs.now c.args.ser.now c.serialize_map.new.self c.in_ok-serialize_map.ensures.takes _ _
