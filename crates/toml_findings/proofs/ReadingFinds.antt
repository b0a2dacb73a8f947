-- What reading found, from what the tree answered.
use Rattle.std.proofs.Common.{ℕ, IsUtf8, List, Ok, Err}
use Rattle.basic_toml.specs.Fault.{Fault}
use Rattle.basic_toml.specs.Reading.{ReadsTree, tree_read, no_memory_for_tree, no_document_for_tree}
use Rattle.basic_toml_tree.specs.declared.tree.Tree.{Tree}
use Rattle.toml_findings.specs.declared.finding.Finding as code
use Rattle.toml_findings.specs.declared.finding.Unread.TheVariants.{Refused}
use Rattle.toml_findings.specs.Findings.{Reads, finding_of, IsRefusal, refused}

pub tree_found : (text : List ℕ) (tree : Tree) → IsUtf8 text → ReadsTree text (Ok tree) → Reads text (Ok tree)
tree_found text tree utf8 (tree_read is) = (utf8, is.document)

-- want of memory has no offset
pub text_refused : (text : List ℕ) (fault : Fault) (finding : code.Finding) → IsUtf8 text → ReadsTree text (Err fault)
    → IsRefusal text fault (finding_of finding) → Reads text (Err (Refused finding))
text_refused text _ finding utf8 no_memory_for_tree told = absurd (cc told.stands)
text_refused text _ finding utf8 (no_document_for_tree none why) told = refused utf8 none why told

pub ruleset read_or_refused = (tree_found, text_refused)
