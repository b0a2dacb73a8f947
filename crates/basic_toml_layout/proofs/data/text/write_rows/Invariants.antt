use Rattle.std.proofs.Common.{◌≡◌, ◌||◌, ◌++◌, drop, string_bytes}
use Rattle.basic_toml_value.specs.Entries.{seen}
use Rattle.basic_toml_value.specs.View.{entries}
use Rattle.basic_toml_layout.specs.Document.{rows_text}
use Rattle.basic_toml_layout.specs.Style.{style_of}
use Rattle.basic_toml_layout.specs.Parts.{has_section}
use Rattle.basic_toml_layout.proofs.data.text.write_rows.Given as goal

-- with what is left, the text is whole, and whether there is a section
abbrev pub invariant-loop-i : goal.invariant-loop-i
invariant-loop-i l = record {
  text_is : string_bytes l.text ++ rows_text (style_of l.style) (entries (seen (drop l.i l.pairs)))
      ≡ string_bytes l.initial.text ++ rows_text (style_of l.style) (entries (seen l.pairs));
  section_is : (l.has_section || has_section (entries (seen (drop l.i l.pairs))))
      ≡ has_section (entries (seen l.pairs));
}
