use Rattle.std.proofs.Common.{◌≡◌, List}
use Rattle.basic_toml_grammar.specs.Sections.{Section}
use Rattle.basic_toml_read.specs.SectionsRead.{SoFar, IsReady, IsEmpty, left_to_read}
use Rattle.basic_toml_tree.proofs.TreeOfText.{IsRestSoFar}
use Rattle.basic_toml_tree.proofs.text.crossed_in_rest.Given as goal

abbrev pub invariant-loop-section : goal.invariant-loop-section
invariant-loop-section l =
    (l.reader.text.now ≡ l.initial.reader.text.now) × IsReady l.reader × IsEmpty l.section
    × ((list : List Section) → SoFar l.initial.reader list → IsRestSoFar l.reader list l.found)

abbrev pub decreases-loop-section : goal.decreases-loop-section
decreases-loop-section l = left_to_read l.reader
