use Rattle.basic_toml_tree.proofs.SectionsGrown.{Goes}
use Rattle.basic_toml_tree.proofs.tree.grow.Given as goal

-- the sections so far are entered, with their headers, and those that are left are as they were
abbrev pub invariant-loop-number : goal.invariant-loop-number
invariant-loop-number l = Goes l.initial.sections.items l.sections.items l.number l.headers l.root
