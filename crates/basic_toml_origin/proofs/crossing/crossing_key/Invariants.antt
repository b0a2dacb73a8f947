use Rattle.std.proofs.Common.{◌≡◌, drop, map}
use Rattle.basic_toml_read.specs.SectionView.{section_of}
use Rattle.basic_toml_origin.specs.Crossing.{crossing_key}
use Rattle.basic_toml_origin.proofs.crossing.crossing_key.Given as goal

-- it is in the sections that are left
abbrev pub invariant-loop-section : goal.invariant-loop-section
invariant-loop-section l =
    crossing_key l.offset (map section_of l.sections)
    ≡ crossing_key l.offset (map section_of (drop l.section-index l.sections))
