use Rattle.std.proofs.Common.{◌≡◌, ◌++◌, drop, string_bytes}
use Rattle.basic_toml_value.specs.Entries.{seen}
use Rattle.basic_toml_value.specs.View.{view, entries, items_view}
use Rattle.basic_toml_value.proofs.Sizes.{data_size, items_size, members_size}
use Rattle.basic_toml_layout.specs.Document.{inline_items, inline_members}
use Rattle.basic_toml_layout.specs.Parts.{items_left, members_left}
use Rattle.basic_toml_layout.proofs.data.inline.+rows.Given as goal

abbrev pub decreases-write_inline : goal.decreases-write_inline
decreases-write_inline l = data_size (view l.value.now)

abbrev pub decreases-write_elements : goal.decreases-write_elements
decreases-write_elements l = items_size (items_view l.values.now)

abbrev pub decreases-write_entries : goal.decreases-write_entries
decreases-write_entries l = members_size (entries (seen l.pairs.now))

-- with what is left, the text is whole
abbrev pub invariant-write_elements-loop-i : goal.invariant-write_elements-loop-i
invariant-write_elements-loop-i l =
    string_bytes l.text ++ items_left l.i (items_view (drop l.i l.values))
    ≡ string_bytes l.initial.text ++ inline_items (items_view l.values)

abbrev pub invariant-write_entries-loop-i : goal.invariant-write_entries-loop-i
invariant-write_entries-loop-i l =
    string_bytes l.text ++ members_left l.i (entries (seen (drop l.i l.pairs)))
    ≡ string_bytes l.initial.text ++ inline_members (entries (seen l.pairs))
