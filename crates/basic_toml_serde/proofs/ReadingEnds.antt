-- How reading ends, from what the tree and the type answered.
use Rattle.std.proofs.Common.{ℕ, List, Result, Ok, Err, IfErr}
use Rattle.basic_toml_tree.specs.declared.tree.Tree.{Tree}
use Rattle.basic_toml_error.specs.Fault.{Fault}
use Rattle.basic_toml.specs.Reading.{ReadsTree, tree_read}
use Rattle.basic_toml_serde.specs.Answers.{AnswersText, HasLine, value_read, no_tree, not_taken}

module _ {T : Type 0} (text : List ℕ) where
  pub unread : (fault : Fault) → ReadsTree text (Err fault) → AnswersText {T = T} text (Err fault)
  unread fault why = no_tree why

  pub read : (tree : Tree) (result : Result T Fault) → ReadsTree text (Ok tree) → IfErr result (HasLine text)
      → AnswersText text result
  read tree (Ok value) (tree_read tree_of) err = value_read tree_of.document
  read tree (Err fault) (tree_read tree_of) err = not_taken tree_of.document err

pub ruleset ends = (unread, read)
