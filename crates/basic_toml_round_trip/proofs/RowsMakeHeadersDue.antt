-- What holds no table is a row of the layout.
use Rattle.std.proofs.Common.{◌≡◌, refl}
use Rattle.basic_toml_value.specs.Data as d
use Rattle.basic_toml_value.specs.Data.{Data, no_items, item}
use Rattle.basic_toml_layout.specs.Layout.{row, form}
use Rattle.basic_toml_layout.specs.Trees.{written_of}
use Rattle.basic_toml_layout.proofs.OrderedText.{HoldsNone}

pub row_form : (x : Data) → HoldsNone x → form (written_of x) ≡ row
row_form (d.array no_items) h = refl
row_form (d.array (item (d.table ms) xs)) h = absurd h.0
row_form (d.array (item x xs)) h = refl
row_form (d.table ms) h = absurd h
row_form x h = refl
