-- Where want of memory comes: not of a text of blanks, comments and line feeds, but where the type asks for memory.
use Rattle.std.proofs.Common.{inl, inr, ◌≡◌, ℕ, List, [], ◌∷◌, ◌≤◌, refl, sym, ap, subst, Result, Ok, Err, IfErr, Option}
use Rattle.std.proofs.Common.{Some, None, ◌∙◌}
use Rattle.std.specs.Option.{option_or}
use Rattle.basic_toml_tokens.specs.Text.{folded}
use Rattle.basic_toml_value.specs.Data.{Data, no_members}
use Rattle.basic_toml_value.specs.Nesting.{nesting_limit}
use Rattle.basic_toml_value.specs.View.{entries}
use Rattle.basic_toml_value.specs.declared.value.Value.{Value}
use Rattle.basic_toml_grammar.specs.Sections.{Section}
use Rattle.basic_toml_grammar.specs.Grammar.{IsSectionList}
use Rattle.basic_toml_grammar.specs.Levels.{highest_level}
use Rattle.basic_toml_grammar.specs.Faults as read
use Rattle.basic_toml_grammar.proofs.LawsHold.{unambiguous}
use Rattle.basic_toml_read.specs.SectionsAnswer as answer
use Rattle.basic_toml_read.specs.SectionsAnswer.{IsRefused, HoldsMore}
use Rattle.basic_toml_tree.specs.declared.tree.Tree.{Tree}
use Rattle.basic_toml_tree.specs.Data.{table_data}
use Rattle.basic_toml_tree.specs.Resolve as resolve
use Rattle.basic_toml_tree.specs.OfText.{AnswersText}
use Rattle.basic_toml_tree.specs.Resolve.{IsUnresolved}
use Rattle.basic_toml_error.specs.Fault.{Fault, out_of_memory, want_of_memory}
use Rattle.basic_toml_error.specs.ReadFaults.{lined}
use Rattle.basic_toml_typed.specs.TypeAnswers.{IfGrows}
use Rattle.basic_toml.specs.Memory.{BlanksAreRead}
use Rattle.basic_toml.specs.Reading.{IsTextFault, outside, deep, no_tree, AnswersTree, WantsMemory}
use Rattle.basic_toml.proofs.GapsHoldNothing.{gap_is_empty, gap_is_listed}
use Rattle.basic_toml.proofs.RefusedTextsHaveNoDocument.{refused_has_no_document}
use Rattle.basic_toml.proofs.TextHasOneDocument.{one_document}
use Rattle.basic_toml.proofs.TextIsReadBack.{table_is, only_memory}

-- a text that is refused holds more than a gap, and so does one that gets no section list, or no tree
text_holds : (text : List ℕ) (error : read.Fault) → IsTextFault text error → HoldsMore (folded text)
text_holds text error why gap =
    refused_has_no_document text error (Data.table no_members) why (gap_is_empty (folded text) gap)

unlisted_holds : (text : List ℕ) (error : read.Fault) → IsRefused text error → HoldsMore (folded text)
unlisted_holds text _ (answer.memory more) = more
unlisted_holds text _ (answer.deep passes first met) =
    text_holds text _ (deep (record { passes = passes; first = first; met = met }))
unlisted_holds text _ (answer.outside due within) = text_holds text _ (outside due within)

unresolved_holds : (text : List ℕ) (sections : List Section) (error : read.Fault) → IsSectionList (folded text) sections
    → highest_level sections ≤ nesting_limit → IsUnresolved sections error → HoldsMore (folded text)
unresolved_holds text sections _ grammar low (resolve.memory listed) =
    λ gap. listed (unambiguous _ (folded text) sections [] grammar (gap_is_listed (folded text) gap))
unresolved_holds text sections error grammar low (resolve.refused why) = text_holds text error (no_tree grammar low why)

pub more_held : (text : List ℕ) (error : read.Fault) → AnswersText text (Err error) → HoldsMore (folded text)
more_held text error (inl why) = unlisted_holds text error why
more_held text error (inr why) =
    unresolved_holds text why.sections error why.list.grammar why.list.limit why.unresolved

-- want of memory has no line and no column, so a type's own has none before them
same_fault : (f : Fault) → f.kind ≡ out_of_memory → f.key_path ≡ [] → f.offset ≡ None → f.line_column ≡ None
    → f.anchor ≡ None → f ≡ want_of_memory
same_fault f kind keys offset line anchor = rw (kind, keys, offset, line, anchor) refl

no_line : (l m : Option (ℕ × ℕ)) → option_or l m ≡ None → l ≡ None
no_line None m e = refl
no_line (Some x) m e = cc

unlined : (text : List ℕ) (own : Fault) → lined text own ≡ want_of_memory → own ≡ want_of_memory
unlined text own e =
    same_fault own (ap (λ (f : Fault). f.kind) e) (ap (λ (f : Fault). f.key_path) e) (ap (λ (f : Fault). f.offset) e)
    (no_line own.line_column _ (ap (λ (f : Fault). f.line_column) e)) (ap (λ (f : Fault). f.anchor) e)

pub lined_grows : (Grows : Type 0) (text : List ℕ) (own fault : Fault) → fault ≡ lined text own → IfGrows Grows own
    → IfGrows Grows fault
lined_grows Grows text own fault same grows memory = grows (unlined text own (sym same ∙ memory))

-- what a text wants by its tree, and by its document
module _ {T : Type 0} (grows : Data → Type 0) (text : List ℕ) where
  pub wanted_by_text : (result : Result T Fault) → HoldsMore (folded text) → IfErr result (WantsMemory grows text)
  wanted_by_text (Ok x) more = tt
  wanted_by_text (Err fault) more = λ memory gap. absurd (more gap)

  pub wanted_by_type : (tree : Tree) (result : Result T Fault) → AnswersTree text (Ok tree)
      → IfErr result (IfGrows (grows (table_data tree.root))) → IfErr result (WantsMemory grows text)
  wanted_by_type tree (Ok x) of wants = tt
  wanted_by_type tree (Err fault) of wants = λ memory gap.
      subst grows (one_document text (table_data tree.root) (Data.table no_members) of.document
      (gap_is_empty (folded text) gap)) (wants memory)

-- a `Table` is read from a gap, without any memory
no_pairs : (pairs : List (List ℕ × Value)) → Data.table (entries pairs) ≡ Data.table no_members → pairs ≡ []
no_pairs [] e = refl
no_pairs (p ∷ ps) e = cc

pub blanks_are_read : BlanksAreRead
blanks_are_read text (Ok pairs) gap reads memory =
    ap (λ ps. Ok ps)
    (no_pairs pairs (table_is text (Data.table no_members) (gap_is_empty (folded text) gap) pairs reads))
blanks_are_read text (Err fault) gap reads memory =
    absurd (memory (only_memory text (Data.table no_members) (gap_is_empty (folded text) gap) fault reads) gap refl)
