-- Which event a note stands for. (own)
use Rattle.serde.specs.Event.{Event, boolean, signed, unsigned, single, double, character, text, octets, nothing}
use Rattle.serde.specs.Event.{unit_variant, seq_begins, seq_ends, map_begins, map_ends, field_key, variant_key}
use Rattle.serde.specs.Event.{key_begins, key_ends, flattens}
use Rattle.basic_toml_serde.specs.declared.log.Note.{Note}
use Rattle.basic_toml_serde.specs.declared.log.Note.TheVariants as note

abbrev pub event_of : Note → Event
event_of (note.Bool b) = boolean b
event_of (note.I64 z) = signed z
event_of (note.U64 n) = unsigned n
event_of (note.I128 z) = signed z
event_of (note.U128 n) = unsigned n
event_of (note.Single x) = single x
event_of (note.Double x) = double x
event_of (note.Char c) = character c
event_of (note.Text s) = text s.now
event_of (note.Bytes s) = octets s.now
event_of note.Unit = nothing
event_of (note.UnitVariant s c) = unit_variant s.now c
event_of (note.BeginSeq n) = seq_begins n
event_of note.EndSeq = seq_ends
event_of (note.BeginMap n) = map_begins n
event_of note.EndMap = map_ends
event_of (note.FieldKey s c) = field_key s.now c
event_of (note.VariantKey s c) = variant_key s.now c
event_of note.BeginKey = key_begins
event_of note.EndKey = key_ends
event_of note.Flatten = flattens
