-- What a text that was written is read as.
use Rattle.std.proofs.Common.{◌≡◌, inl, inr, ℕ, List, refl, sym, ap, ◌∙◌, Result, Ok, Err, string_bytes}
use Rattle.std.proofs.Common.{String, Global}
use Rattle.basic_toml_tokens.specs.Text.{folded}
use Rattle.basic_toml_value.specs.Data.{Data}
use Rattle.basic_toml_value.specs.View.{entries}
use Rattle.basic_toml_value.specs.declared.value.Value.{Value}
use Rattle.basic_toml_grammar.specs.Document.{IsDocument}
use Rattle.basic_toml_emit.specs.Items.{Item}
use Rattle.basic_toml_layout.specs.Written.{Written}
use Rattle.basic_toml_write.specs.declared.error.WriteError.{WriteError}
use Rattle.basic_toml_write.specs.Kept.{kept}
use Rattle.basic_toml_write.specs.Spelling.{Spells}
use Rattle.basic_toml_layout.specs.Trees.{tree_of}
use Rattle.basic_toml_error.specs.Fault.{Fault, want_of_memory}
use Rattle.basic_toml.specs.Reading.{ReadsText, value_read, no_memory, no_document, not_taken}
use Rattle.basic_toml_error.specs.ReadFaults.{lined}
use Rattle.basic_toml.specs.ReadBack.{RoundTrips}
use Rattle.basic_toml.specs.Ser.{Writes, MeansKept, IsTextOf}
use Rattle.basic_toml_typed.specs.TypeFaults.{table_faults}
use Rattle.basic_toml_typed.specs.TypeReads.{table_reads, table_takes}
use Rattle.basic_toml.proofs.TextHasOneDocument.{one_document}

-- the table that is read is the tree of the document
pub table_is : (text : List ℕ) (tree : Data) → IsDocument (folded text) tree → (pairs : List (List ℕ × Value))
    → ReadsText table_takes table_reads table_faults text (Ok pairs) → Data.table (entries pairs) ≡ tree
table_is text tree means pairs (value_read {members = m} document read) =
    sym read ∙ one_document text (Data.table m) tree document means

-- and an error is want of memory
pub only_memory : (text : List ℕ) (tree : Data) → IsDocument (folded text) tree → (fault : Fault)
    → ReadsText table_takes table_reads table_faults text (Err fault) → fault ≡ want_of_memory
only_memory text tree means _ no_memory = refl
only_memory text tree means _ (no_document none because) = absurd (none tree means)
only_memory text tree means fault (not_taken document (own, only, one, same)) = same ∙ ap (lined text) (only.taken refl)

module _ (calls : List Item) (gives_up : List Item → WriteError → Type 0) where
  pub read_back : (s : String Global) (result : Result (List (List ℕ × Value)) Fault) → Writes calls gives_up (Ok s)
      → MeansKept calls (string_bytes s) → ReadsText table_takes table_reads table_faults (string_bytes s) result
      → RoundTrips calls gives_up result
  read_back s (Ok pairs) written means read =
      let is : (w : Written) → Spells calls w → Data.table (entries pairs) ≡ tree_of (kept w) =
      λ w spelled. table_is (string_bytes s) (tree_of (kept w)) (means.document w spelled) pairs read in
      record {
        table = record {
          value = written.text.value;
          spelled = written.text.spelled;
          supported = written.text.supported;
          whole =
              is written.text.value written.text.spelled;
        };
        succeeds = λ w spelled supported. is w spelled;
        refused = tt;
      }
  read_back s (Err fault) written means read =
      let t : IsTextOf calls (string_bytes s) = written.text in
      let memory : fault ≡ want_of_memory =
      only_memory (string_bytes s) (tree_of (kept t.value)) (means.document t.value t.spelled) fault read in
      record { table = tt; succeeds = λ w spelled supported. inr memory; refused = inl memory }

  -- a value that was not written is not read
  pub not_written : (fault : Fault) → Writes calls gives_up (Err fault)
      → RoundTrips calls gives_up (Err fault)
  not_written fault written =
      record { table = tt; succeeds = λ w spelled supported. written.succeeds w spelled supported; refused = written.refused }

pub ruleset round_trips = (read_back, not_written)
