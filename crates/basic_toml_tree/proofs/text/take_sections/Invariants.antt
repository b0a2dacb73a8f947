use Rattle.basic_toml_read.specs.SectionsRead.{IsEmpty, left_to_read}
use Rattle.basic_toml_tree.proofs.TreeOfText.{Grows}
use Rattle.basic_toml_tree.proofs.text.take_sections.Given as goal

abbrev pub invariant-loop-stop : goal.invariant-loop-stop
invariant-loop-stop l = Grows l.text l.reader l.tree.headers l.tree.root × IsEmpty l.section

abbrev pub decreases-loop-stop : goal.decreases-loop-stop
decreases-loop-stop l = left_to_read l.reader
