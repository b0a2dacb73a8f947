use Rattle.std.proofs.Common.{◌≡◌, ◌+◌, ◌*◌, drop, [], length}
use Rattle.basic_toml_value.specs.Pairs.{keys_of}
use Rattle.json.specs.Tree.{json_tokens, items_tokens, members_tokens}
use Rattle.json.specs.Value as j
use Rattle.json.specs.Value.{value_view}
use Rattle.toml_from_json.specs.Meaning.{mapped, items_of, members_of}
use Rattle.toml_from_json.proofs.PartsInTurn.{items_before, members_before}
use Rattle.toml_from_json.proofs.tree.+values.Given as goal

abbrev pub decreases-value_of : goal.decreases-value_of
decreases-value_of l = 2 * length (json_tokens (value_view l.json.now))

abbrev pub decreases-object_of : goal.decreases-object_of
decreases-object_of l = 2 * length (members_tokens (j.members_view l.members.now)) + 1

abbrev pub decreases-elements_of : goal.decreases-elements_of
decreases-elements_of l = 2 * length (items_tokens (j.items_view l.values.now))

abbrev pub decreases-members_of : goal.decreases-members_of
decreases-members_of l = 2 * length (members_tokens (j.members_view l.members.now))

abbrev pub decreases-member_of : goal.decreases-member_of
decreases-member_of l = 2 * length (json_tokens (value_view l.member.now.1)) + 1

-- what is made, and what the rest means
abbrev pub invariant-elements_of-loop-i : goal.invariant-elements_of-loop-i
invariant-elements_of-loop-i l =
    mapped (items_before l.elements.items) (items_of l.form (j.items_view (drop l.i l.values)))
    ≡ items_of l.form (j.items_view l.values)

abbrev pub invariant-members_of-loop-i : goal.invariant-members_of-loop-i
invariant-members_of-loop-i l =
    mapped (members_before l.table) (members_of l.form (keys_of l.table) (j.members_view (drop l.i l.members)))
    ≡ members_of l.form [] (j.members_view l.members)
