use Rattle.std.proofs.Common.{List, sym, ◌∙◌, ap, subst}
use Rattle.basic_toml_value.specs.View.{view}
use Rattle.basic_toml_emit.specs.Items.{Item, open_array, open_table}
use Rattle.basic_toml_write.specs.Serializer.{NoFault, Sends, MemoryHasCause}
use Rattle.basic_toml_write.specs.Impls.{data_calls, array_calls, ArrayGivesUp, table_calls, TableGivesUp}
use Rattle.basic_toml_write.proofs.ListsAreSentInTurn.{sends_widen}
use Rattle.basic_toml_layout.proofs.ViewsOfValues.{view-Array, view-Table}
use Rattle.basic_toml_write.proofs.DataIsSentByParts.{array_sent, table_sent, any_never}
use Rattle.basic_toml_write.proofs.impls.+data.Goals as goal

pub ValueSerialize::serialize-returns-in-Array-clause-sends : goal.ValueSerialize::serialize-returns-in-Array-clause-sends
ValueSerialize::serialize-returns-in-Array-clause-sends n c =
    let xs = c.in-Array.values.items in
    subst (λ (is : List Item). Sends is NoFault c.args.ser.now c.serialize.new.ser c.serialize.result)
    (array_sent xs ∙ sym (ap data_calls (ap view c.in-Array.is ∙ view-Array c.in-Array.values)))
    (sends_widen (ArrayGivesUp (λ v. data_calls (view v)) (λ v. NoFault) xs) NoFault (any_never open_array _ _ xs)
    (array_calls (λ v. data_calls (view v)) xs) c.args.ser.now c.serialize.new.ser c.serialize.result
    c.serialize.ensures.sends)

pub ValueSerialize::serialize-returns-in-Table-clause-sends : goal.ValueSerialize::serialize-returns-in-Table-clause-sends
ValueSerialize::serialize-returns-in-Table-clause-sends n c =
    let ps = c.in-Table.table in
    subst (λ (is : List Item). Sends is NoFault c.args.ser.now c.serialize-in-Table.new.ser c.serialize-in-Table.result)
    (table_sent ps ∙ sym (ap data_calls (ap view c.in-Table.is ∙ view-Table ps))) c.serialize-in-Table.ensures.sends

pub TableSerialize::serialize-returns-in-Some-clause-sends : goal.TableSerialize::serialize-returns-in-Some-clause-sends
TableSerialize::serialize-returns-in-Some-clause-sends n c =
    subst (λ (is : List Item). Sends is NoFault c.args.ser.now c.lay_out.new.self c.in-Some.answer)
    (sym (table_sent c.args.self.now)) c.in-Some.ensures.sends

pub TableSerialize::serialize-returns-in-None-clause-sends : goal.TableSerialize::serialize-returns-in-None-clause-sends
TableSerialize::serialize-returns-in-None-clause-sends n c =
    let ps = c.args.self.now in
    subst (λ old. Sends (table_calls (λ v. data_calls (view v)) ps) NoFault old c.serialize_entries.new.ser
    c.serialize_entries.result) c.in-None.ensures.sends
    (sends_widen (TableGivesUp (λ v. data_calls (view v)) (λ v. NoFault) ps) NoFault (any_never open_table _ _ ps)
    (table_calls (λ v. data_calls (view v)) ps) c.lay_out.new.self c.serialize_entries.new.ser
    c.serialize_entries.result c.serialize_entries.ensures.sends)

pub ValueSerialize::serialize-returns-in-Array-clause-memory : goal.ValueSerialize::serialize-returns-in-Array-clause-memory
ValueSerialize::serialize-returns-in-Array-clause-memory n c =
    λ _. subst (λ (is : List Item). MemoryHasCause is c.args.ser.now c.serialize.new.ser c.serialize.result)
    (array_sent c.in-Array.values.items ∙ sym (ap data_calls (ap view c.in-Array.is ∙ view-Array c.in-Array.values)))
    (c.serialize.ensures.memory tt)

pub ValueSerialize::serialize-returns-in-Table-clause-memory : goal.ValueSerialize::serialize-returns-in-Table-clause-memory
ValueSerialize::serialize-returns-in-Table-clause-memory n c =
    let ps = c.in-Table.table in
    λ _. subst (λ (is : List Item). MemoryHasCause is c.args.ser.now c.serialize-in-Table.new.ser
    c.serialize-in-Table.result)
    (table_sent ps ∙ sym (ap data_calls (ap view c.in-Table.is ∙ view-Table ps)))
    (c.serialize-in-Table.ensures.memory tt)

pub TableSerialize::serialize-returns-in-Some-clause-memory : goal.TableSerialize::serialize-returns-in-Some-clause-memory
TableSerialize::serialize-returns-in-Some-clause-memory n c =
    λ _. subst (λ (is : List Item). MemoryHasCause is c.args.ser.now c.lay_out.new.self c.in-Some.answer)
    (sym (table_sent c.args.self.now)) c.in-Some.ensures.memory

pub TableSerialize::serialize-returns-in-None-clause-memory : goal.TableSerialize::serialize-returns-in-None-clause-memory
TableSerialize::serialize-returns-in-None-clause-memory n c =
    λ _. subst (λ old. MemoryHasCause (table_calls (λ v. data_calls (view v)) c.args.self.now) old
    c.serialize_entries.new.ser c.serialize_entries.result) c.in-None.ensures.sends c.serialize_entries.ensures.memory
