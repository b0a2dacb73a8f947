-- A want of memory names no place and no keys: no text's own error is one, and every error of writing is without a place.
use Rattle.std.proofs.Common.{◌≡◌, ◌⊎◌, inl, inr, ℕ, List, Option, sym, ap, ◌∙◌, refl, arith}
use Rattle.basic_toml_tokens.specs.declared.error.Error.{Error}
use Rattle.basic_toml_tokens.specs.Text.{Text}
use Rattle.basic_toml_tokens.specs.TokenAt.{Lexeme}
use Rattle.basic_toml_value.specs.Data.{Data}
use Rattle.basic_toml_grammar.specs.Faults as read
use Rattle.basic_toml_grammar.specs.GrammarFaults.{IsTokenFault, char, escape, hex_escape, escape_value, feed, other_char}
use Rattle.basic_toml_grammar.specs.GrammarFaults.{open_string}
use Rattle.basic_toml_grammar.specs.Sections.{Section}
use Rattle.basic_toml_grammar.specs.Viable.{FirstRefusal, this, later, Want, mismatch_kind, IsDueAt, no_token, number}
use Rattle.basic_toml_grammar.specs.Viable.{token_of_number, mismatch}
use Rattle.basic_toml_emit.specs.Items.{Item}
use Rattle.basic_toml_write.specs.declared.error.WriteError.{WriteError}
use Rattle.basic_toml_tree.specs.declared.node.Node.{Node}
use Rattle.basic_toml_tree.specs.FirstStop as tree
use Rattle.basic_toml_tree.specs.FirstStop.{SectionsFault}
use Rattle.basic_toml_tree.proofs.SectionsStopped.{stops_without_memory}
use Rattle.basic_toml_error.specs.Fault.{Fault, FaultKind, reading, want_of_memory, without_offset}
use Rattle.basic_toml_error.specs.ReadFaults.{fault_in, lined}
use Rattle.basic_toml.specs.Memory.{HasNoPlace, ReadsWithoutPlace, TreesWithoutPlace, WritesWithoutPlace}
use Rattle.basic_toml.specs.Memory.{RoundTripsWithoutPlace}
use Rattle.basic_toml.specs.Reading.{IsTextFault, outside, deep, no_tree, no_memory, no_document, not_taken}
use Rattle.basic_toml.specs.Reading.{no_memory_for_tree, no_document_for_tree}
use Rattle.basic_toml.specs.Ser.{IsOwnFault, IsFirstFault}

abbrev IsMemory : read.Fault → Type 0
IsMemory fault = fault.kind ≡ read.out_of_memory

-- no error that a text is due is one
of_token : (error : Error) (fault : read.Fault) → IsTokenFault error fault → IsMemory fault → ⊥
of_token _ _ char is = cc
of_token _ _ escape is = cc
of_token _ _ hex_escape is = cc
of_token _ _ escape_value is = cc
of_token _ _ feed is = cc
of_token _ _ other_char is = cc
of_token _ _ open_string is = cc

of_refusal : (texts : List Text) (fault : read.Fault) → FirstRefusal texts fault → IsMemory fault → ⊥
of_refusal _ fault (this refusal) is = of_token refusal.error fault refusal.names is
of_refusal _ fault (later none refusal) is = of_refusal _ fault refusal is

of_mismatch : (want : Want) (found : Option Lexeme) (word : List ℕ) → mismatch_kind want found word ≡ read.out_of_memory → ⊥
of_mismatch want found word is = grind arith

of_due : (start : Text) (end : ℕ) (at : Text) (fault : read.Fault) → IsDueAt start end at fault → IsMemory fault → ⊥
of_due start end at fault (no_token refusal) is = of_token refusal.error fault refusal.names is
of_due start end at _ (number fails none) is = cc
of_due start end at fault (token_of_number fails refusal) is = of_refusal _ fault refusal is
of_due start end at _ (mismatch {found = found} {word = word} {want = want} none stands wanted) is =
    of_mismatch want found word is

-- nor is one of sections that have no tree
of_sections : (sections : List Section) (fault : read.Fault) → SectionsFault sections fault → IsMemory fault → ⊥
of_sections sections _ (tree.value crossed) is = cc
of_sections sections fault (tree.section none first) is =
    stops_without_memory first.so_far first.here fault first.stopped is

of_text : (text : List ℕ) (error : read.Fault) → IsTextFault text error → IsMemory error → ⊥
of_text text error (outside due within) is = of_due _ _ due.at error due.due is
of_text text _ (deep nested) is = cc
of_text text error (no_tree grammar low why) is = of_sections _ error why is

kind_read : (a b : read.FaultKind) → reading a ≡ reading b → a ≡ b
kind_read a b same = cc

no_text : (text : List ℕ) (error : read.Fault) → IsTextFault text error → HasNoPlace (fault_in text error)
no_text text error why is = absurd (of_text text error why (kind_read error.kind read.out_of_memory is))

-- a type's own, with its line
own_lined : (text : List ℕ) (own fault : Fault) → fault ≡ lined text own → HasNoPlace own → HasNoPlace fault
own_lined text own fault same none is =
    same ∙ ap (lined text) (none (sym (ap (λ (f : Fault). f.kind) same) ∙ is))

module _ {T : Type 0} (takes : Data → Type 0) (reads : Data → T → Type 0) (faults : Node → Fault → Type 0) where
  pub read_without_place : ReadsWithoutPlace takes reads faults
  read_without_place named text fault no_memory is = refl
  read_without_place named text _ (no_document {error = error} none why) is = no_text text error why is
  read_without_place named text fault (not_taken e (own, only, (root, at, inl memory), same)) is =
      same ∙ ap (lined text) memory
  read_without_place named text fault (not_taken e (own, only, (root, at, inr one), same)) is =
      own_lined text own fault same (named root own one) is

pub tree_without_place : TreesWithoutPlace
tree_without_place text _ no_memory_for_tree is = refl
tree_without_place text _ (no_document_for_tree {error = error} none why) is = no_text text error why is

-- each error of writing is without a place
without_place : (kind : FaultKind) (fault : Fault) → fault ≡ without_offset kind → HasNoPlace fault
without_place kind fault same is =
    same ∙ ap without_offset (sym (ap (λ (f : Fault). f.kind) same) ∙ is)

module _ (calls : List Item) (gives_up : List Item → WriteError → Type 0) where
  of_writing : (fault : Fault) → (fault ≡ want_of_memory) ⊎ (IsOwnFault gives_up fault ⊎ IsFirstFault calls fault)
      → HasNoPlace fault
  of_writing fault (inl memory) is = memory
  of_writing fault (inr (inl own)) is = without_place _ fault own.named is
  of_writing fault (inr (inr first)) is = without_place _ fault first.named is

  pub written_without_place : WritesWithoutPlace calls gives_up
  written_without_place fault p is = of_writing fault p.refused is

  pub round_trip_without_place : RoundTripsWithoutPlace calls gives_up
  round_trip_without_place fault p is = of_writing fault p.refused is
