use Rattle.std.proofs.Common.{◌≡◌, false, ◌∷◌, arith, ap, sym, ◌∙◌, string_bytes}
use Rattle.std.proofs.lemmas.Grind.{common_steps}
use Rattle.std.proofs.lemmas.Str.{IsUtf8-string_bytes}
use Rattle.basic_toml_value.proofs.Sizes.{data_size-at, data_size-pair}
use Rattle.basic_toml_layout.proofs.DataIsLaidOut.{if_ok, entries_smaller, element_is, rows_alone, cut_back}
use Rattle.basic_toml_layout.specs.Style.{style_of}
use Rattle.basic_toml_value.specs.Entries.{seen}
use Rattle.basic_toml_value.specs.Text.{text_bytes}
use Rattle.basic_toml_value.specs.View.{entries}
use Rattle.basic_toml_layout.specs.Texts.{joined}
use Rattle.basic_toml_layout.proofs.data.text.+sections.Goals as goal

pub write_sections-write_entry-requires : goal.write_sections-write_entry-requires
write_sections-write_entry-requires t c =
    let smaller = data_size-pair c.args.pairs.now c.loop-i.i c.index-pairs-i.result c.loop-i-test.true c.index-pairs-i.is
    in
    (omega arith, tt)

pub write_elements-write_element-requires : goal.write_elements-write_element-requires
write_elements-write_element-requires t c =
    let smaller = data_size-at c.args.values.now c.loop-i.i c.index-values-i.result c.loop-i-test.true c.index-values-i.is in
    (omega arith, tt)

pub write_element-write_entries-requires : goal.write_element-write_entries-requires
write_element-write_entries-requires t c =
    let smaller = entries_smaller c.args.value.now c.in-Table.table c.entries.result.now c.in-Table.is
    c.entries.ensures.pairs in
    (omega arith, tt)

pub write_entry-truncate-requires : goal.write_entry-truncate-requires
write_entry-truncate-requires t c = λ within.
    let more = c.in_ok-add_key.ensures.front in
    let cut = cut_back (string_bytes c.args.path.now) (string_bytes c.write_section.new.path) c.len-len.result
    (omega arith) (IsUtf8-string_bytes c.args.path.now) (IsUtf8-string_bytes c.write_section.new.path)
    (more.0, c.in_ok-write_section.ensures.path ∙ more.1) in
    (cut.0, λ some lt ge. cut.1 lt ge)

pub write_element-returns-in_ok-write_element_header-in-Table-clause-text :
    goal.write_element-returns-in_ok-write_element_header-in-Table-clause-text
write_element-returns-in_ok-write_element_header-in-Table-clause-text t c = λ keys leads.
    if_ok c.write_entries.result (λ u last. element_is (style_of c.args.style) c.args.value.now c.in-Table.table c.entries.result.now
    c.in-Table.is c.entries.ensures.pairs keys c.args.is_later c.is_spaced.result (string_bytes c.args.text.now)
    (string_bytes c.write_element_header.new.text) (string_bytes c.write_entries.new.text) c.is_spaced.ensures
    (c.in_ok-write_element_header-in-Table.ensures keys (leads ∙ sym c.as_str.ensures.value)) last)
    (c.write_entries.ensures.text keys leads)

pub write_entries-returns-then-not-branch-clause-text : goal.write_entries-returns-then-not-branch-clause-text
write_entries-returns-then-not-branch-clause-text t c = λ keys leads.
    let none : c.in_ok-write_rows.field-0 ≡ false = grind (arith, common_steps) in
    rows_alone (style_of c.args.style) (entries (seen c.args.pairs.now)) keys c.args.is_later c.in_ok-write_rows.field-0 (string_bytes c.args.text.now)
    (string_bytes c.write_rows.new.text) c.in_ok-write_rows.ensures.section none c.in_ok-write_rows.ensures.text

pub write_entry-returns-clause-text : goal.write_entry-returns-clause-text
write_entry-returns-clause-text t c = λ keys leads.
    let section = c.in_ok-write_section.ensures.text (text_bytes c.args.pair.now.key ∷ keys)
    (ap (λ k. joined (k ∷ keys)) (sym c.as_str.ensures.value) ∙ c.in_ok-add_key.ensures.keys keys leads) in
    rw (sym c.is_row.ensures ∙ c.if-is_row.false) section
