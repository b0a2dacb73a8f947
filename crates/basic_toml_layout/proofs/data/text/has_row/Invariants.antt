use Rattle.std.proofs.Common.{◌≡◌, drop}
use Rattle.basic_toml_value.specs.Entries.{seen}
use Rattle.basic_toml_value.specs.View.{entries}
use Rattle.basic_toml_layout.specs.Document.{has_row}
use Rattle.basic_toml_layout.proofs.data.text.has_row.Given as goal

-- what is left tells it of all
abbrev pub invariant-loop-i : goal.invariant-loop-i
invariant-loop-i l = has_row (entries (seen (drop l.i l.pairs))) ≡ has_row (entries (seen l.pairs))
