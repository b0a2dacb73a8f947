-- Trees of data return as themselves.
use Rattle.std.proofs.Common.{◌≡◌, ℕ, List, refl, sym, subst, ap, ◌∙◌, Option, Some}
use Rattle.std.specs.Prelude.{⊤}
use Rattle.basic_toml_value.specs.Data as d
use Rattle.basic_toml_value.specs.Data.{Data}
use Rattle.basic_toml_value.specs.View.{view, entries}
use Rattle.basic_toml_value.specs.declared.value.Value.{Value}
use Rattle.basic_toml_layout.specs.Trees.{written_of}
use Rattle.basic_toml_emit.specs.Items.{Item}
use Rattle.basic_toml_round_trip.proofs.KeptHasTheTree.{tree-kept}
use Rattle.basic_toml_write.proofs.DataIsSentByParts.{table_sent}
use Rattle.basic_toml_write.proofs.LawsHold.{data_is_kept, data_is_spelled}
use Rattle.basic_toml_write.specs.Impls.{data_calls, table_calls}
use Rattle.basic_toml_typed.specs.TypeReads.{table_reads, value_reads}
use Rattle.basic_toml_returns.specs.Means.{Means, entry_data}
use Rattle.basic_toml_returns.specs.Returned.{ReadBack}

data_is_held : (x : Data) → ◌≡◌ {A = Option Data} (entry_data (written_of x)) (Some x)
data_is_held (d.integer z) = refl
data_is_held (d.float text) = refl
data_is_held (d.boolean b) = refl
data_is_held (d.string text) = refl
data_is_held (d.array xs) =
    ap (λ x. Some x) (tree-kept (written_of (d.array xs)) ∙ data_is_kept (d.array xs))
data_is_held (d.table ms) =
    ap (λ x. Some x) (tree-kept (written_of (d.table ms)) ∙ data_is_kept (d.table ms))

pub data_means : (x : Data) → Means (data_calls x) (Some x)
data_means x = record { value = written_of x; spelled = data_is_spelled x; whole = data_is_held x }

pub table_means : (t : List (List ℕ × Value))
    → Means (table_calls (λ v. data_calls (view v)) t) (Some (d.table (entries t)))
table_means t =
    subst (λ (is : List Item). Means is (Some (d.table (entries t)))) (sym (table_sent t)) (data_means (d.table (entries t)))

abbrev pub value_back : ReadBack Value
value_back = record {
  calls = λ v. data_calls (view v);
  holds = λ v. ⊤;
  reads = value_reads;
  meant = λ v. view v;
  returns = λ v held. record { means = data_means (view v); read = refl; once = λ y read. sym read };
}

abbrev pub table_back : ReadBack (List (List ℕ × Value))
table_back = record {
  calls = table_calls (λ v. data_calls (view v));
  holds = λ t. ⊤;
  reads = table_reads;
  meant = λ t. d.table (entries t);
  returns = λ t held. record { means = table_means t; read = refl; once = λ y read. sym read };
}
