-- The views of strings, and of arrays and tables by those of their parts.
use Rattle.std.proofs.Common.{◌≡◌, ℕ, List, map, rules, Vec, Global}
use Rattle.basic_toml_value.specs.Data.{string, array, table, items_of}
use Rattle.basic_toml_value.specs.Text.{text_bytes}
use Rattle.basic_toml_value.specs.View.{view, entries}
use Rattle.basic_toml_value.specs.declared.text.Text.{Text}
use Rattle.basic_toml_value.specs.declared.value.Value.{Value, the_lemmas}
use Rattle.basic_toml_value.specs.declared.value.Value.TheVariants.{String as Words, Array, Table}

pub view-String : (t : Text) → view (Words t) ≡ string (text_bytes t)
view-String t = search (rules, the_lemmas)

pub view-Array : (v : Vec Value Global) → view (Array v) ≡ array (items_of (map view v.items))
view-Array v = search (rules, the_lemmas)

pub view-Table : (ps : List (List ℕ × Value)) → view (Table ps) ≡ table (entries ps)
view-Table ps = search (rules, the_lemmas)
