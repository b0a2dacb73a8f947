-- How reading ends, from what the section list, the tree and the type answered.
use Rattle.std.proofs.Common.{◌≡◌, ◌⊎◌, inl, inr, ℕ, ◌≤◌, false, List, [], refl, sym, ap, subst, Result, Ok, Err}
use Rattle.std.proofs.Common.{Some, IfOk, IfErr, ◌∙◌}
use Rattle.std.proofs.lemmas.Bool.{le-leb}
use Rattle.basic_toml_tokens.specs.Text.{folded}
use Rattle.basic_toml_value.specs.Data.{Data, table, Members}
use Rattle.basic_toml_value.specs.Nesting.{nesting_limit}
use Rattle.basic_toml_grammar.specs.Sections.{Section}
use Rattle.basic_toml_grammar.specs.Grammar.{IsSectionList}
use Rattle.basic_toml_grammar.specs.Depth.{depth}
use Rattle.basic_toml_grammar.specs.Levels.{highest_level}
use Rattle.basic_toml_grammar.specs.Document.{has_clash, tree_of_sections, document_of, IsDocument}
use Rattle.basic_toml_grammar.specs.Faults as read
use Rattle.basic_toml_grammar.proofs.LawsHold.{keyed}
use Rattle.basic_toml_explain.specs.Error as explain
use Rattle.basic_toml_read.specs.SectionsAnswer as answer
use Rattle.basic_toml_read.specs.SectionsAnswer.{IsRefused}
use Rattle.basic_toml_tree.specs.declared.node.Node.{Node}
use Rattle.basic_toml_tree.specs.declared.tree.Tree.{Tree}
use Rattle.basic_toml_tree.specs.Data.{table_data}
use Rattle.basic_toml_tree.specs.Resolve as resolve
use Rattle.basic_toml_tree.specs.OfText.{AnswersText}
use Rattle.basic_toml_tree.specs.Resolve.{IsResolved, IsUnresolved}
use Rattle.basic_toml.proofs.MemoryIsWanted.{more_held}
use Rattle.basic_toml_tree.specs.Stands.{StandsAt}
use Rattle.basic_toml_tree.proofs.ItemData.{table_is_table}
use Rattle.basic_toml_error.specs.Fault.{Fault, want_of_memory}
use Rattle.basic_toml_error.specs.ReadFaults.{fault_in, lined}
use Rattle.basic_toml_typed.specs.TypeAnswers.{AtRoot}
use Rattle.basic_toml.specs.Reading.{IsTextFault, outside, deep, no_tree, OnlyMemory, OrMemory, IsLined, ReadsText}
use Rattle.basic_toml.specs.Reading.{IsTreeOf, AtDocument}
use Rattle.basic_toml.proofs.RefusedTextsHaveNoDocument.{refused_has_no_document}
use Rattle.basic_toml.specs.Reading.{value_read, no_memory, no_document, not_taken, GivesTree, AnswersTree}
use Rattle.basic_toml.specs.Reading.{ReadsTree, no_memory_for_tree, no_document_for_tree}
use Rattle.basic_toml.specs.Reading as ending

-- the tree of a section list is its document, where nothing clashes and it fits
document_found : (sections : List Section) (tree : Data) → has_clash sections ≡ false
    → depth (tree_of_sections sections) ≤ nesting_limit → tree ≡ tree_of_sections sections
    → document_of sections ≡ Some tree
document_found sections tree peace fits grown =
    rw (peace, le-leb (depth (tree_of_sections sections)) nesting_limit fits) (ap (λ (d : Data). Some d) (sym grown))

-- why there is no section list
not_listed : (text : List ℕ) (error : read.Fault) → IsRefused text error
    → (error ≡ explain.want_of_memory) ⊎ IsTextFault text error
not_listed text _ (answer.memory more) = inl refl
not_listed text _ (answer.deep passes first met) = inr (deep (record { passes = passes; first = first; met = met }))
not_listed text _ (answer.outside due within) = inr (outside due within)

-- why there is no tree
not_resolved : (text : List ℕ) (sections : List Section) (error : read.Fault) → IsSectionList (folded text) sections
    → highest_level sections ≤ nesting_limit → IsUnresolved sections error
    → (error ≡ explain.want_of_memory) ⊎ IsTextFault text error
not_resolved text sections _ grammar low (resolve.memory listed) = inl refl
not_resolved text sections _ grammar low (resolve.refused why) = inr (no_tree grammar low why)

-- the tree of a text, or why there is none, as the document of the text tells it
pub given : (text : List ℕ) (result : Result Tree read.Fault) → AnswersText text result → GivesTree text result
given text (Ok tree) found = record {
  sections = found.sections;
  grammar = found.list.grammar;
  resolved = found.resolved;
  document = record {
    sections = found.sections;
    grammar = found.list.grammar;
    means = document_found found.sections (table_data tree.root) found.resolved.clash found.resolved.fits
        found.resolved.grown;
  };
}
given text (Err error) (inl why) = not_listed text error why
given text (Err error) (inr why) =
    not_resolved text why.sections error why.list.grammar why.list.limit why.unresolved

-- the error with its line and its column
located_error : (text : List ℕ) (error : read.Fault) (fault : Fault) → GivesTree text (Err error)
    → (fault ≡ want_of_memory) ⊎ (fault ≡ fault_in text error) → AnswersTree text (Err fault)
located_error text error fault why (inl memory) = inl memory
located_error text error fault (inl memory) (inr same) = inl (same ∙ ap (fault_in text) memory)
located_error text error fault (inr why) (inr same) = inr (error, why, same)

pub error_located : (text : List ℕ) (error : read.Fault) (fault : Fault) → AnswersText text (Err error)
    → (fault ≡ want_of_memory) ⊎ (fault ≡ fault_in text error) → AnswersTree text (Err fault)
error_located text error fault why same = located_error text error fault (given text (Err error) why) same

pub tree_found : (text : List ℕ) (tree : Tree) → AnswersText text (Ok tree) → AnswersTree text (Ok tree)
tree_found text tree found = given text (Ok tree) found

pub ruleset with_lines = (error_located, tree_found, more_held)

-- the error of a type with its line and its column
pub lined_error : {T : Type 0} (takes : Type 0) (reads : T → Type 0) (IsNamed : Fault → Type 0) (text : List ℕ)
    → (own fault : Fault) → OnlyMemory takes reads own → IsNamed own → fault ≡ lined text own
    → IsLined takes reads IsNamed text fault
lined_error takes reads IsNamed text own fault only named same = (own, only, named, same)

pub ruleset read_lined = (lined_error)

-- what holds at the root of the tree of a text holds at the document of the text
at_document : (Holds : Node → Type 0) (text : List ℕ) (tree : Tree) → IsTreeOf text tree → AtRoot Holds tree
    → AtDocument Holds text
at_document Holds text tree of (root, same, stands, holds) = (
  root,
  record {
    sections = of.sections;
    grammar = of.grammar;
    stands = record {
      resolved = subst (IsResolved of.sections) (sym stands.within) of.resolved;
      keyed = keyed (folded text) of.sections of.grammar;
      stands = subst (λ (t : Tree). StandsAt t [] root) (sym stands.within) stands;
    };
    document = subst (IsDocument (folded text)) (sym same) of.document;
  },
  holds,
)

module _ {T : Type 0} (takes : Data → Type 0) (reads : Data → T → Type 0) (faults : Node → Fault → Type 0)
    (text : List ℕ) where
  pub unread : (fault : Fault) → AnswersTree text (Err fault) → ReadsText takes reads faults text (Err fault)
  unread fault (inl memory) = subst (λ (f : Fault). ReadsText takes reads faults text (Err f)) (sym memory) no_memory
  unread fault (inr (error, why, same)) =
      subst (λ (f : Fault). ReadsText takes reads faults text (Err f)) (sym same)
      (no_document (λ tree document. refused_has_no_document text error tree why document) why)

  abbrev named_there : Fault → Type 0
  named_there own = AtDocument (λ root. OrMemory (faults root) own) text

  document_read : (d : Data) (members : Members) (result : Result T Fault) → d ≡ table members
      → IsDocument (folded text) d → IfOk result (reads d) → IfErr result (IsLined (takes d) (reads d) named_there text)
      → ReadsText takes reads faults text result
  document_read d ms (Ok value) same document ok err =
      value_read (subst (IsDocument (folded text)) same document) (subst (λ (x : Data). reads x value) same ok)
  document_read d ms (Err fault) same document ok err =
      not_taken (subst (IsDocument (folded text)) same document)
      (subst (λ (x : Data). IsLined (takes x) (reads x) named_there text fault) same err)

  abbrev named_at : Tree → Fault → Type 0
  named_at tree own = AtRoot (λ root. OrMemory (faults root) own) tree

  lined_there : (d : Data) (tree : Tree) (result : Result T Fault) → IsTreeOf text tree
      → IfErr result (IsLined (takes d) (reads d) (named_at tree) text)
      → IfErr result (IsLined (takes d) (reads d) named_there text)
  lined_there d tree (Ok value) of err = tt
  lined_there d tree (Err fault) of (own, only, named, same) =
      (own, only, at_document (λ root. OrMemory (faults root) own) text tree of named, same)

  pub tree_read : (tree : Tree) (result : Result T Fault) → AnswersTree text (Ok tree)
      → IfOk result (reads (table_data tree.root))
      → IfErr result (IsLined (takes (table_data tree.root)) (reads (table_data tree.root)) (named_at tree) text)
      → ReadsText takes reads faults text result
  tree_read tree result of ok err =
      let (members, same) = table_is_table tree.root in
      document_read (table_data tree.root) members result same of.document ok
      (lined_there (table_data tree.root) tree result of err)

pub ruleset ends = (unread)

-- the tree, or why there is none
pub ends_in_tree : (text : List ℕ) (result : Result Tree Fault) → AnswersTree text result → ReadsTree text result
ends_in_tree text (Ok tree) document = ending.tree_read document
ends_in_tree text (Err fault) (inl memory) =
    subst (λ (f : Fault). ReadsTree text (Err f)) (sym memory) no_memory_for_tree
ends_in_tree text (Err fault) (inr (error, why, same)) =
    subst (λ (f : Fault). ReadsTree text (Err f)) (sym same)
    (no_document_for_tree (λ tree document. refused_has_no_document text error tree why document) why)

pub ruleset tree_ends = (ends_in_tree)
