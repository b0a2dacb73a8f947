-- The text of what was sent, with the rows of each table first.
use Rattle.std.proofs.Common.{◌≡◌, ℕ, false, List, sym, subst, ◌∙◌}
use Rattle.basic_toml_tokens.specs.Text.{folded}
use Rattle.basic_toml_value.specs.Data.{Data, Members, table}
use Rattle.basic_toml_value.specs.Nesting.{nesting_limit}
use Rattle.basic_toml_value.specs.View.{view, entries}
use Rattle.basic_toml_value.specs.declared.value.Value.{Value}
use Rattle.basic_toml_grammar.specs.Document.{IsDocument}
use Rattle.basic_toml_layout.specs.Layout.{layout}
use Rattle.basic_toml_layout.specs.Trees.{tree_of, written_of}
use Rattle.basic_toml_emit.specs.Items.{Item}
use Rattle.basic_toml_write.specs.Impls.{data_calls, table_calls}
use Rattle.basic_toml_write.specs.Kept.{kept}
use Rattle.basic_toml_write.specs.Shapes.{is_unsupported}
use Rattle.basic_toml_write.specs.Spelling.{Spells}
use Rattle.basic_toml_write.proofs.DataIsSentByParts as parts
use Rattle.basic_toml_write.proofs.TreesAreKept.{spells_tree, tree-written}
use Rattle.basic_toml_round_trip.proofs.KeptHasTheTree.{tree-kept}
use Rattle.basic_toml.specs.RowsFirst.{rows_first}
use Rattle.basic_toml.specs.Ser.{HoldsData, MeansKept}
use Rattle.serde.specs.Event.{Log}
use Rattle.basic_toml_serde.specs.Written.{IsSentTable, IsTextRowsFirst, IsWrittenRowsFirst}

-- the text of a table that was put in order
pub rows_first_laid_out : (ms : Members) (moved : List (List ℕ × Value)) (text : List ℕ)
    → table (entries moved) ≡ rows_first (table ms)
    → HoldsData (table_calls (λ v. data_calls (view v)) moved) text
    → MeansKept (table_calls (λ v. data_calls (view v)) moved) text → IsTextRowsFirst (table ms) text
rows_first_laid_out ms moved text order holds means =
    let x : Data = table (entries moved) in
    let calls : List Item = table_calls (λ v. data_calls (view v)) moved in
    let same : calls ≡ data_calls x = parts.table_sent moved in
    let facts = holds x same in
    let read : IsDocument (folded text) (tree_of (kept (written_of x))) =
    means.document (written_of x) (subst (λ is. Spells is (written_of x)) (sym same) (spells_tree x))
    in
    record {
      supported = subst (λ y. is_unsupported nesting_limit (written_of y) ≡ false) order facts.supported;
      laid_out = subst (λ y. text ≡ layout (written_of y)) order facts.laid_out;
      read_back = subst (IsDocument (folded text)) (tree-kept (written_of x) ∙ tree-written x ∙ order) read;
    }

pub written_rows_first : (writes : Log → Log → Type 0) (ms : Members) (text : List ℕ) → IsSentTable writes ms
    → IsTextRowsFirst (table ms) text → IsWrittenRowsFirst writes text
written_rows_first writes ms text (events, sends, (items, sent, (value, spelled, same))) is = (
  events,
  sends,
  record {
    items = items;
    sent = sent;
    value = value;
    spelled = spelled;
    written = subst (λ x. IsTextRowsFirst x text) (sym same) is;
  },
)
