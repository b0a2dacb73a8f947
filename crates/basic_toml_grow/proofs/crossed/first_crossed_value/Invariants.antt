use Rattle.std.proofs.Common.{◌≡◌, drop, map}
use Rattle.basic_toml_read.specs.SectionView.{section_of}
use Rattle.basic_toml_grow.specs.Crossed.{first_crossed}
use Rattle.basic_toml_grow.proofs.crossed.first_crossed_value.Given as goal

-- what is crossed in all is crossed in the sections that are left
abbrev pub invariant-loop-section : goal.invariant-loop-section
invariant-loop-section l =
    first_crossed (map section_of l.sections) ≡ first_crossed (map section_of (drop l.section-index l.sections))
