-- The text of any table means it.
use Rattle.std.proofs.Common.{◌≡◌, ◌⊎◌, ℕ, ◌≤◌, true, false, List, ◌++◌, codes, inr, sym, ◌∙◌, subst}
use Rattle.std.specs.Prelude.{nat_le}
use Rattle.std.proofs.lemmas.Bool.{leb-true, leb-false}
use Rattle.basic_toml_tokens.specs.Text.{folded}
use Rattle.basic_toml_value.specs.Data.{Data, Members, no_members, member, table}
use Rattle.basic_toml_value.specs.Nesting.{nesting_limit}
use Rattle.basic_toml_grammar.specs.Depth.{depth}
use Rattle.basic_toml_grammar.specs.Document.{IsDocument}
use Rattle.basic_toml_layout.specs.Document.{plain, inline, document_text}
use Rattle.basic_toml_layout.specs.Layout.{row_start}
use Rattle.basic_toml_layout.specs.Style.{style_of}
use Rattle.basic_toml_layout.specs.declared.data.style.Style.{Style}
use Rattle.basic_toml_layout.specs.TextOrder.{text_order}
use Rattle.basic_toml_layout.specs.Valid.{IsValid}
use Rattle.basic_toml_round_trip.proofs.LawsHold.{document_read_back, same_order_maps, same_order_text}
use Rattle.basic_toml_round_trip.proofs.LawsHold.{value_read_back}
use Rattle.basic_toml_order.proofs.LawsHold.{writable_has_the_layout}
use Rattle.basic_toml_error.specs.Fault.{Fault, without_offset, nested_too_deeply, want_of_memory}
use Rattle.basic_toml.specs.TableText.{IsDocumentOf, HasTheLayout, IsTooDeep, IsValueText}

pub written : (style : Style) (ms : Members) (text : List ℕ) → IsValid (table ms)
    → nat_le (depth (table ms)) nesting_limit ≡ true → text ≡ document_text (style_of style) ms
    → (depth (table ms) ≤ nesting_limit) × IsDocumentOf (style_of style) ms text
written style ms text valid within is =
    let deep : depth (table ms) ≤ nesting_limit = leb-true (depth (table ms)) nesting_limit within in (
      deep,
      record {
        laid_out = is;
        means = subst (λ bytes. IsDocument (folded bytes) (table (text_order ms))) (sym is)
            (document_read_back style ms valid deep);
        same_maps = same_order_maps ms;
        same_text = same_order_text style ms ∙ sym is;
      },
    )

pub has_the_layout : (ms : Members) (text : List ℕ) → IsDocumentOf plain ms text → HasTheLayout ms text
has_the_layout ms text is fine = is.laid_out ∙ writable_has_the_layout ms fine

pub too_deep : (x : Data) (fault : Fault) → nat_le (depth x) nesting_limit ≡ false
    → fault ≡ without_offset nested_too_deeply → (fault ≡ want_of_memory) ⊎ IsTooDeep x fault
too_deep x fault above is = inr (record { deep = leb-false (depth x) nesting_limit above; is = is })

pub value_written : (x : Data) (text : List ℕ) → IsValid x → nat_le (depth x) nesting_limit ≡ true → text ≡ inline x
    → (depth x ≤ nesting_limit) × IsValueText x text
value_written x text valid within is = (
  leb-true (depth x) nesting_limit within,
  record {
    is = is;
    means = λ key utf8 deep. subst (λ bytes. IsDocument (folded (row_start key ++ (bytes ++ codes "\n")))
        (table (member key x no_members))) (sym is) (value_read_back key x utf8 valid deep);
  },
)
