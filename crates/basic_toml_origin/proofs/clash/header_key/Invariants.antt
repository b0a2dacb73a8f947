use Rattle.std.proofs.Common.{◌≡◌, drop, map}
use Rattle.basic_toml_read.specs.SectionView.{section_of}
use Rattle.basic_toml_origin.specs.Clash.{header_key}
use Rattle.basic_toml_origin.proofs.clash.header_key.Given as goal

-- it is in the sections that are left
abbrev pub invariant-loop-section : goal.invariant-loop-section
invariant-loop-section l =
    header_key (map section_of l.sections) l.offset
    ≡ header_key (map section_of (drop l.section-index l.sections)) l.offset
