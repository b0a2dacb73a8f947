use Rattle.basic_toml_origin.specs.Path.{path_of}
use Rattle.basic_toml_origin.proofs.SectionsTell.{Going}
use Rattle.basic_toml_origin.proofs.find.find_origin.Given as goal

-- what the sections passed say, and what is left to the others
abbrev pub invariant-loop-section : goal.invariant-loop-section
invariant-loop-section l = Going l.end l.sections (path_of l.path) l.section-index l.row l.way l.counts.items
