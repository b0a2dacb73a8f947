use Rattle.std.proofs.Common.{◌+◌, ◌*◌}
use Rattle.toml_case_answers.proofs.nodes.+nodes.Given as goal

abbrev pub decreases-push_node : goal.decreases-push_node
decreases-push_node l = 100 * l.levels

abbrev pub decreases-push_entries : goal.decreases-push_entries
decreases-push_entries l = 100 * l.levels + l.left

abbrev pub decreases-push_elements : goal.decreases-push_elements
decreases-push_elements l = 100 * l.levels + l.left
