use Rattle.basic_toml_origin.specs.Path.{path_of}
use Rattle.basic_toml_origin.proofs.ElementsCounted.{Counting}
use Rattle.basic_toml_origin.proofs.indexed_path.elements_at.Given as goal

-- the counts are those of the sections passed
abbrev pub invariant-loop-section : goal.invariant-loop-section
invariant-loop-section l = Counting l.sections (path_of l.path) l.section-index l.counts.items
