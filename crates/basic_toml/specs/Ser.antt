-- How writing a value ends, and what its text means. (own)
use Rattle.std.specs.Prelude.{◌≡◌, ◌⊎◌, ℕ, List, Result, Ok, Err, IfOk, IfErr, MatchResult, true, false, string_bytes}
use Rattle.std.specs.Prelude.{String}
use Rattle.std.specs.declared.alloc.Global.{Global}
use Rattle.basic_toml_tokens.specs.Text.{folded}
use Rattle.basic_toml_value.specs.Data.{Data}
use Rattle.basic_toml_grammar.specs.Document.{IsDocument}
use Rattle.basic_toml_layout.specs.Written.{Written}
use Rattle.basic_toml_write.specs.Recordable.{AreRecordable}
use Rattle.basic_toml_write.specs.Kept.{kept}
use Rattle.basic_toml_layout.specs.Trees.{tree_of, written_of}
use Rattle.basic_toml_write.specs.Impls.{data_calls}
use Rattle.basic_toml_emit.specs.Items.{Item}
use Rattle.basic_toml_write.specs.Spelling.{Spells}
use Rattle.basic_toml_write.specs.Write.{IsOwnError}
use Rattle.basic_toml_layout.specs.Layout.{layout}
use Rattle.basic_toml_value.specs.Nesting.{nesting_limit}
use Rattle.basic_toml_write.specs.Shapes.{is_unsupported}
use Rattle.basic_toml_emit.specs.Rules as rules
use Rattle.basic_toml_emit.specs.Open.{fresh}
use Rattle.basic_toml_emit.specs.Calls.{outcome}
use Rattle.basic_toml_emit.specs.Growth.{items_grow}
use Rattle.basic_toml_write.specs.declared.error.WriteError.{WriteError}
use Rattle.basic_toml_error.specs.Fault as fault
use Rattle.basic_toml_error.specs.Fault.{Fault, FaultKind, without_offset, want_of_memory}
use Rattle.basic_toml_error.specs.WriteFaults.{write_kind}

abbrev pub fault_kind : rules.CallFault → FaultKind
fault_kind rules.unsupported_type = fault.unsupported_type
fault_kind rules.key_not_string = fault.key_not_string
fault_kind rules.value_after_table = fault.value_after_table
fault_kind rules.unsupported_none = fault.unsupported_none
fault_kind rules.call_order = fault.call_order
fault_kind rules.nested_too_deeply = fault.nested_too_deeply
fault_kind (rules.duplicate_key key) = fault.duplicate_key key

-- the fault is the first error that the calls meet
pub record IsFirstFault (calls : List Item) (f : Fault) : Type 0 where
  pub error : rules.CallFault
  pub met : outcome nesting_limit calls ≡ Err error
  pub named : f ≡ without_offset (fault_kind error)

-- the fault is an error of the type's own, with which it may give up after calls of which none is refused
pub record IsOwnFault (gives_up : List Item → WriteError → Type 0) (f : Fault) : Type 0 where
  pub own : WriteError
  pub met : IsOwnError gives_up own
  pub named : f ≡ without_offset (write_kind own)

-- the text is the layout of the value that the calls spell, in which no unsupported shape occurs; each item is one that
-- a call can record
pub record IsTextOf (calls : List Item) (text : List ℕ) : Type 0 where
  pub recordable : AreRecordable calls
  pub value : Written
  pub spelled : Spells calls value
  pub supported : is_unsupported nesting_limit value ≡ false
  pub laid_out : text ≡ layout value

-- the text is the layout of the data, in which no unsupported shape occurs
pub record IsDataText (x : Data) (text : List ℕ) : Type 0 where
  pub supported : is_unsupported nesting_limit (written_of x) ≡ false
  pub laid_out : text ≡ layout (written_of x)

-- How writing a value ends, memory aside: with an error of the type's own, where it gives up before a call was
-- refused; else with the layout, where the calls spell a value in which no unsupported shape occurs, and else with
-- the first error that they meet.
pub record Writes (calls : List Item) (gives_up : List Item → WriteError → Type 0)
    (result : Result (String Global) Fault)
    : Type 0 where
  pub text : IfOk result (λ s. IsTextOf calls (string_bytes s))
  pub succeeds : (w : Written) → Spells calls w → is_unsupported nesting_limit w ≡ false
      → MatchResult result (λ s. string_bytes s ≡ layout w) (λ f. IsOwnFault gives_up f ⊎ (f ≡ want_of_memory))
  pub refused : IfErr result (λ f. (f ≡ want_of_memory) ⊎ (IsOwnFault gives_up f ⊎ IsFirstFault calls f))

-- want of memory comes only where one of the calls grows something
abbrev pub CallsGrow : List Item → Fault → Type 0
CallsGrow calls f = f ≡ want_of_memory → items_grow fresh calls ≡ true

-- where the calls are those of data, the text is the layout of that data
abbrev pub HoldsData : List Item → List ℕ → Type 0
HoldsData calls text = (d : Data) → calls ≡ data_calls d → IsDataText d text

-- The text means what is kept of the value that the calls spell: that tree is its document, keys in order, and the
-- calls of the tree come to the same bytes.
pub record MeansKept (calls : List Item) (text : List ℕ) : Type 0 where
  pub document : (w : Written) → Spells calls w → IsDocument (folded text) (tree_of (kept w))
  pub again : (tree : Data) → IsDocument (folded text) tree → outcome nesting_limit (data_calls tree) ≡ Ok text
