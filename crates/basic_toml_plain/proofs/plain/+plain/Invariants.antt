use Rattle.std.proofs.Common.{◌≡◌, ◌+◌, true, take}
use Rattle.basic_toml_plain.specs.Plain.{are_plain}
use Rattle.basic_toml_plain.proofs.PlainParts.{parts_of, parts_of_elements, parts_of_rows}
use Rattle.basic_toml_plain.proofs.plain.+plain.Given as goal

abbrev pub decreases-is_plain : goal.decreases-is_plain
decreases-is_plain l = parts_of l.value.now

abbrev pub decreases-are_plain : goal.decreases-are_plain
decreases-are_plain l = parts_of_elements l.elements.now

abbrev pub decreases-are_few_simple : goal.decreases-are_few_simple
decreases-are_few_simple l = parts_of_rows l.rows.now + 1

abbrev pub decreases-are_simple : goal.decreases-are_simple
decreases-are_simple l = parts_of_rows l.rows.now

-- the elements passed are plain
abbrev pub invariant-are_plain-loop-element : goal.invariant-are_plain-loop-element
invariant-are_plain-loop-element l = are_plain l.level (take l.element-index l.elements) ≡ true
