-- What a call records.
use Rattle.basic_toml_layout.specs.Scalar.{scalar_of}
use Rattle.basic_toml_emit.specs.Items as i
use Rattle.basic_toml_emit.specs.declared.call.Call.{Call}
use Rattle.basic_toml_emit.specs.declared.call.Call.TheVariants.{Scalar as AScalar, Absent, OpenArray, OpenTable}
use Rattle.basic_toml_emit.specs.declared.call.Call.TheVariants.{Close, Key, Field, SomePrefix, ValuePrefix}
use Rattle.basic_toml_emit.specs.declared.call.Call.TheVariants.{ElementPrefix}

abbrev pub item_of : Call → i.Item
item_of (AScalar l) = i.a_scalar (scalar_of l)
item_of Absent = i.an_absent
item_of OpenArray = i.open_array
item_of OpenTable = i.open_table
item_of Close = i.close
item_of Key = i.key
item_of (Field k) = i.field k.now
item_of SomePrefix = i.some_prefix
item_of ValuePrefix = i.value_prefix
item_of ElementPrefix = i.element_prefix
