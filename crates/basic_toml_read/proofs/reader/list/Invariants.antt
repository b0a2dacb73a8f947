use Rattle.basic_toml_read.proofs.Common.{◌≡◌, map, section_of, IsEmpty, SoFar, left_to_read}
use Rattle.basic_toml_read.proofs.reader.list.Given as goal
use Rattle.basic_toml_read.specs.SectionsRead.{IsReady}

abbrev pub invariant-loop-section : goal.invariant-loop-section
invariant-loop-section l =
    (l.reader.text.now ≡ l.text) × IsReady l.reader × IsEmpty l.section
    × SoFar l.reader (map section_of l.sections.items)

abbrev pub decreases-loop-section : goal.decreases-loop-section
decreases-loop-section l = left_to_read l.reader
