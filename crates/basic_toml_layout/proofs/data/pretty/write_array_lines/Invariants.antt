use Rattle.std.proofs.Common.{◌≡◌, ◌++◌, drop, string_bytes}
use Rattle.basic_toml_value.specs.View.{items_view}
use Rattle.basic_toml_layout.specs.Pretty.{element_lines}
use Rattle.basic_toml_layout.proofs.data.pretty.write_array_lines.Given as goal

-- with what is left, the text is whole
abbrev pub invariant-loop-i : goal.invariant-loop-i
invariant-loop-i l =
    string_bytes l.text ++ element_lines (items_view (drop l.i l.values))
    ≡ string_bytes l.initial.text ++ element_lines (items_view l.values)
