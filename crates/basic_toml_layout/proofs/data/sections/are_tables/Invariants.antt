use Rattle.std.proofs.Common.{◌≡◌, drop}
use Rattle.basic_toml_value.specs.View.{items_view}
use Rattle.basic_toml_layout.specs.Document.{are_tables}
use Rattle.basic_toml_layout.proofs.data.sections.are_tables.Given as goal

-- what is left tells it of all
abbrev pub invariant-loop-i : goal.invariant-loop-i
invariant-loop-i l = are_tables (items_view (drop l.i l.values)) ≡ are_tables (items_view l.values)
