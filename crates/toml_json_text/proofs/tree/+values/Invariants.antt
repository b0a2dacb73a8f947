use Rattle.std.proofs.Common.{◌≡◌, ◌++◌, suc, drop, false, string_bytes}
use Rattle.basic_toml_value.specs.Entries.{seen}
use Rattle.basic_toml_value.specs.View.{view, entries, items_view}
use Rattle.basic_toml_value.proofs.Sizes.{data_size, items_size, members_size}
use Rattle.toml_json_text.specs.Json.{elements_text, members_text}
use Rattle.toml_json_text.proofs.tree.+values.Given as goal

abbrev pub decreases-push_value : goal.decreases-push_value
decreases-push_value l = data_size (view l.value.now)

abbrev pub decreases-push_elements : goal.decreases-push_elements
decreases-push_elements l = items_size (items_view l.values.now)

abbrev pub decreases-push_table : goal.decreases-push_table
decreases-push_table l = suc (members_size (entries l.table.now))

abbrev pub decreases-push_members : goal.decreases-push_members
decreases-push_members l = members_size (entries (seen l.pairs.now))

abbrev pub decreases-push_member : goal.decreases-push_member
decreases-push_member l = suc (data_size (view l.pair.now.value))

-- with what is left, the text is whole
abbrev pub invariant-push_elements-loop-i : goal.invariant-push_elements-loop-i
invariant-push_elements-loop-i l =
    string_bytes l.text ++ elements_text l.form l.layout l.level l.is_later (items_view (drop l.i l.values))
    ≡ string_bytes l.initial.text ++ elements_text l.form l.layout l.level false (items_view l.values)

abbrev pub invariant-push_members-loop-i : goal.invariant-push_members-loop-i
invariant-push_members-loop-i l =
    string_bytes l.text ++ members_text l.form l.layout l.level l.is_later (entries (seen (drop l.i l.pairs)))
    ≡ string_bytes l.initial.text ++ members_text l.form l.layout l.level false (entries (seen l.pairs))
