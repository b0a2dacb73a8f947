-- The items that a list keeps. (own)
use Rattle.std.specs.Prelude.{◌≡◌, pos, List, map, string_bytes, Vec}
use Rattle.std.specs.declared.alloc.Global.{Global}
use Rattle.basic_toml_layout.specs.Written as w
use Rattle.basic_toml_emit.specs.Items as i
use Rattle.basic_toml_serde.specs.declared.items.Item.{Item}
use Rattle.basic_toml_serde.specs.declared.items.Item.TheVariants as item

abbrev pub item_of : Item → i.Item
item_of (item.Boolean b) = i.a_scalar (w.boolean b)
item_of (item.Integer z) = i.a_scalar (w.integer z)
item_of (item.Large n) = i.a_scalar (w.integer (pos n))
item_of (item.Float f) = i.a_scalar (w.float f)
item_of (item.Text t) = i.a_scalar (w.text (string_bytes t))
item_of (item.OtherText t) = i.a_scalar (w.other_text (string_bytes t))
item_of (item.Octets bs) = i.a_scalar (w.bytes bs.items)
item_of item.Absent = i.an_absent
item_of item.NoForm = i.a_scalar w.refused
item_of item.OpenArray = i.open_array
item_of item.OpenTable = i.open_table
item_of item.Close = i.close
item_of item.Key = i.key
item_of (item.Field k) = i.field (string_bytes k)
item_of item.Element = i.element_prefix

abbrev pub listed : List Item → List i.Item
listed items = map item_of items

abbrev pub AreListed : Vec Item Global → List i.Item → Type 0
AreListed list items = listed list.items ≡ items
