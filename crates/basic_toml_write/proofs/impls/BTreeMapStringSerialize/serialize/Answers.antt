use Rattle.std.proofs.Common.{◌∷◌, [], map, rules, string_bytes, string_cmp, subst, sym}
use Rattle.std.proofs.lemmas.Result.{err_from_is_err_and}
use Rattle.std.proofs.lemmas.List.{map-append}
use Rattle.std.specs.BTreeMap.{IsOrdered}
use Rattle.std.specs.List.{AllByRecursion}
use Rattle.std.specs.Map.Iter.{deref_pair}
use Rattle.basic_toml_emit.specs.Items.{open_table, field}
use Rattle.basic_toml_write.proofs.PartsAreSent.{all_more, where_ok, yields_split, yields_next, yields_end, parts_unopened, parts_yield}
use Rattle.basic_toml_write.proofs.PartsAreSent.{parts_fault, parts_closed, memory_unopened, memory_once_open}
use Rattle.basic_toml_write.proofs.ItemsGrow.{table_grows}
use Rattle.basic_toml_write.proofs.impls.BTreeMapStringSerialize.serialize.Goals as goal

pub returns-in_err-serialize_map-clause-sends : goal.returns-in_err-serialize_map-clause-sends
returns-in_err-serialize_map-clause-sends g c =
    let p = err_from_is_err_and c.from_residual.result c.from_residual.ensures.1 in
    rw (p.1, p.2) (parts_unopened open_table (λ p. field (string_bytes p.0))
    (λ p. g.V.Serialize.calls p.1) (λ p. g.V.Serialize.gives_up p.1) c.args.self.now.entries c.args.ser.now c.serialize_map.new.self _
    c.in_err-serialize_map.ensures.takes)

pub returns-in_err-serialize_field-clause-sends : goal.returns-in_err-serialize_field-clause-sends
returns-in_err-serialize_field-clause-sends g c =
    let p = err_from_is_err_and c.from_residual-in_err-serialize_field.result
    c.from_residual-in_err-serialize_field.ensures.1 in
    rw (p.1, p.2) (parts_fault open_table (λ p. field (string_bytes p.0))
    (λ p. g.V.Serialize.calls p.1) (λ p. g.V.Serialize.gives_up p.1) c.args.self.now.entries (map deref_pair c.loop-name.yielded)
    (deref_pair (c.in-Some.name, c.in-Some.value)) c.next.new.self
    (yields_split deref_pair c.args.self.now.entries c.loop-name.yielded c.loop-name.name-iterator c.next.new.self
    c.next.result c.next.ensures.steps c.loop-name.invariant.left (c.in-Some.name, c.in-Some.value) c.in-Some.is)
    c.args.ser.now c.loop-name.ser c.serialize_field.new.self _ c.loop-name.invariant.sent
    (rw c.as_str.ensures.value at c.in_err-serialize_field.ensures.passes))

pub loop-name-preserved : goal.loop-name-preserved
loop-name-preserved g c = record {
  sent = parts_yield open_table (λ p. field (string_bytes p.0))
      (λ p. g.V.Serialize.calls p.1) (λ p. g.V.Serialize.gives_up p.1) deref_pair c.loop-name.yielded
      (c.in-Some.name, c.in-Some.value) c.args.ser.now c.loop-name.ser
      c.serialize_field.new.self c.loop-name.invariant.sent
      (rw c.as_str.ensures.value at c.in_ok-serialize_field.ensures.passes);
  left = yields_next deref_pair c.args.self.now.entries c.loop-name.yielded c.loop-name.name-iterator c.next.new.self
      c.next.result c.next.ensures.steps c.loop-name.invariant.left (c.in-Some.name, c.in-Some.value) c.in-Some.is;
  held = subst (AllByRecursion (λ e. g.V.Serialize.holds e.1))
      (sym (map-append deref_pair c.loop-name.yielded ((c.in-Some.name, c.in-Some.value) ∷ [])))
      (all_more (λ e. g.V.Serialize.holds e.1) (map deref_pair c.loop-name.yielded) (deref_pair (c.in-Some.name, c.in-Some.value))
      c.loop-name.invariant.held c.in_ok-serialize_field.ensures.holds);
}

pub returns-clause-sends : goal.returns-clause-sends
returns-clause-sends g c = parts_closed open_table (λ p. field (string_bytes p.0))
    (λ p. g.V.Serialize.calls p.1) (λ p. g.V.Serialize.gives_up p.1) c.args.self.now.entries (map deref_pair c.loop-name.yielded)
    (yields_end deref_pair c.args.self.now.entries c.loop-name.yielded c.loop-name.name-iterator c.next.new.self
    c.next.result c.next.ensures.steps c.loop-name.invariant.left c.in-None.is) c.args.ser.now c.loop-name.ser
    c.end.new.self c.end.result c.loop-name.invariant.sent c.end.ensures.takes

pub returns-clause-holds : goal.returns-clause-holds
returns-clause-holds g c =
    let ordered : IsOrdered string_cmp c.args.self.now = search rules in
    where_ok c.end.result (
      ordered,
      subst (AllByRecursion (λ e. g.V.Serialize.holds e.1))
          (yields_end deref_pair c.args.self.now.entries c.loop-name.yielded c.loop-name.name-iterator c.next.new.self
          c.next.result c.next.ensures.steps c.loop-name.invariant.left c.in-None.is) c.loop-name.invariant.held,
    )

pub returns-in_err-serialize_map-clause-memory : goal.returns-in_err-serialize_map-clause-memory
returns-in_err-serialize_map-clause-memory g c =
    let p = err_from_is_err_and c.from_residual.result c.from_residual.ensures.1 in
    λ _. rw (p.1, p.2) (memory_unopened open_table (λ p. field (string_bytes p.0)) (λ p. g.V.Serialize.calls p.1)
    (λ p. g.V.Serialize.gives_up p.1) c.args.self.now.entries
    c.args.ser.now c.serialize_map.new.self _ c.in_err-serialize_map.ensures.takes)

pub returns-in_err-serialize_field-clause-memory : goal.returns-in_err-serialize_field-clause-memory
returns-in_err-serialize_field-clause-memory g c =
    λ _. memory_once_open open_table (λ p. field (string_bytes p.0)) (λ p. g.V.Serialize.calls p.1)
    (λ p. g.V.Serialize.gives_up p.1) table_grows
    c.args.self.now.entries c.args.ser.now c.serialize_map.new.self c.in_ok-serialize_map.ensures.takes _ _

pub returns-clause-memory : goal.returns-clause-memory
returns-clause-memory g c =
    λ _. memory_once_open open_table (λ p. field (string_bytes p.0)) (λ p. g.V.Serialize.calls p.1)
    (λ p. g.V.Serialize.gives_up p.1) table_grows
    c.args.self.now.entries c.args.ser.now c.serialize_map.new.self c.in_ok-serialize_map.ensures.takes _ _
