use Rattle.std.proofs.Common.{◌≡◌, ◌++◌, ◌*◌, ℕ, List, suc, drop, string_bytes}
use Rattle.basic_toml_value.specs.Entries.{seen}
use Rattle.basic_toml_value.specs.View.{view, entries, items_view}
use Rattle.basic_toml_value.proofs.Sizes.{data_size, items_size, members_size}
use Rattle.basic_toml_layout.specs.Document.{sections_text, elements_text}
use Rattle.basic_toml_layout.specs.Style.{style_of}
use Rattle.basic_toml_layout.specs.Texts.{joined}
use Rattle.basic_toml_layout.proofs.data.text.+sections.Given as goal

-- twice the size, so that a table, its entries and its sections go down one by one
abbrev pub decreases-write_entries : goal.decreases-write_entries
decreases-write_entries l = suc (2 * members_size (entries (seen l.pairs.now)))

abbrev pub decreases-write_sections : goal.decreases-write_sections
decreases-write_sections l = 2 * members_size (entries (seen l.pairs.now))

abbrev pub decreases-write_entry : goal.decreases-write_entry
decreases-write_entry l = suc (2 * data_size (view l.pair.now.value))

abbrev pub decreases-write_section : goal.decreases-write_section
decreases-write_section l = 2 * data_size (view l.value.now)

abbrev pub decreases-write_table : goal.decreases-write_table
decreases-write_table l = suc (suc (2 * members_size (entries l.table.now)))

abbrev pub decreases-write_elements : goal.decreases-write_elements
decreases-write_elements l = 2 * items_size (items_view l.values.now)

abbrev pub decreases-write_element : goal.decreases-write_element
decreases-write_element l = 2 * data_size (view l.value.now)

-- with what is left, the text is whole
abbrev pub invariant-write_sections-loop-i : goal.invariant-write_sections-loop-i
invariant-write_sections-loop-i l = record {
  path_is : string_bytes l.path ≡ string_bytes l.initial.path;
  text_is : (keys : List (List ℕ)) → joined keys ≡ string_bytes l.initial.path
      → string_bytes l.text ++ sections_text (style_of l.style) keys l.is_after (entries (seen (drop l.i l.pairs)))
      ≡ string_bytes l.initial.text ++ sections_text (style_of l.style) keys l.is_later (entries (seen l.pairs));
}

abbrev pub invariant-write_elements-loop-i : goal.invariant-write_elements-loop-i
invariant-write_elements-loop-i l = record {
  path_is : string_bytes l.path ≡ string_bytes l.initial.path;
  text_is : (keys : List (List ℕ)) → joined keys ≡ string_bytes l.initial.path
      → string_bytes l.text ++ elements_text (style_of l.style) keys l.is_after (items_view (drop l.i l.values))
      ≡ string_bytes l.initial.text ++ elements_text (style_of l.style) keys l.is_later (items_view l.values);
}
