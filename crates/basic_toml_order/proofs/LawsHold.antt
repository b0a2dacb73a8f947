-- The laws of order, as they are stated.
use Rattle.basic_toml_order.specs.RowsFirst.{rows_first}
use Rattle.basic_toml_order.specs.Statements.{RowsComeFirst, HasSameMaps, OrderedStays, OnceIsEnough}
use Rattle.basic_toml_order.specs.Statements.{OnlyUnwritableIsRefused, StaysRecordable, WritableHasTheLayout}
use Rattle.basic_toml_order.proofs.MapsStayTheSame.{same}
use Rattle.basic_toml_order.proofs.NoValueAfterTable.{unsupported_same}
use Rattle.basic_toml_order.proofs.RowsComeFirst.{ordered, stays}
use Rattle.basic_toml_order.proofs.StaysRecordable.{recordable}
use Rattle.basic_toml_order.proofs.WritableHasTheLayout.{writable_text}

pub rows_come_first : RowsComeFirst
rows_come_first = ordered

pub has_same_maps : HasSameMaps
has_same_maps = same

pub ordered_stays : OrderedStays
ordered_stays = stays

pub once_is_enough : OnceIsEnough
once_is_enough d = stays (rows_first d) (ordered d)

pub only_unwritable_is_refused : OnlyUnwritableIsRefused
only_unwritable_is_refused = unsupported_same

pub stays_recordable : StaysRecordable
stays_recordable = recordable

pub writable_has_the_layout : WritableHasTheLayout
writable_has_the_layout = writable_text
