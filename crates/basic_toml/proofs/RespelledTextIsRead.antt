-- What a type reads from a text it reads from the text's document, so from that of the same text with other line ends,
-- with a U+FEFF in front, and from the one that the text had by the older rules.
use Rattle.std.proofs.Common.{◌≡◌, ℕ, List, false, true, refl, ap, subst, ◌∙◌, Result, Ok}
use Rattle.std.specs.Str.{IsUtf8}
use Rattle.basic_toml_tokens.specs.Text.{folded}
use Rattle.basic_toml_value.specs.Data.{Data, table}
use Rattle.basic_toml_grammar.specs.Document.{IsDocument}
use Rattle.basic_toml_grammar.specs.OldRules.{has_no_delete, WasDocument}
use Rattle.basic_toml_grammar.specs.Respelled.{with_returns, has_return, with_byte_order_mark, has_byte_order_mark}
use Rattle.basic_toml_grammar.proofs.LawsHold.{old}
use Rattle.basic_toml_grammar.proofs.SameMeaning.RespelledMeanTheSame.{returns_mean_nothing}
use Rattle.basic_toml_grammar.proofs.SameMeaning.RespelledMeanTheSame.{byte_order_mark_means_nothing}
use Rattle.basic_toml_tree.specs.declared.node.Node.{Node}
use Rattle.basic_toml_error.specs.Fault.{Fault}
use Rattle.basic_toml_error.specs.ReadFaults.{lined}
use Rattle.basic_toml.specs.Reading.{OnlyMemory, ReadsText, value_read, no_memory, no_document, not_taken, ReadsData}
use Rattle.basic_toml.proofs.TextHasOneDocument.{one_document}

module _ {T : Type 0} (takes : Data → Type 0) (reads : Data → T → Type 0) (faults : Node → Fault → Type 0)
    (text : List ℕ) where
  only_lined : (d : Data) (own fault : Fault) → OnlyMemory (takes d) (reads d) own → fault ≡ lined text own
      → OnlyMemory (takes d) (reads d) fault
  only_lined d own fault only same = record {
    taken = λ takes. same ∙ ap (lined text) (only.taken takes);
    held = λ value read. same ∙ ap (lined text) (only.held value read);
  }

  pub read_from : (d : Data) (result : Result T Fault) → IsDocument (folded text) d → ReadsText takes reads faults text result
      → ReadsData takes reads d result
  read_from d (Ok value) document (value_read {members = m} own read) =
      (subst (λ (x : Data). reads x value) (one_document text (table m) d own document) read, tt)
  read_from d _ document no_memory = (tt, record { taken = λ takes. refl; held = λ value read. refl })
  read_from d _ document (no_document none why) = absurd (none d document)
  read_from d _ document (not_taken {members = m} {fault = fault} own (made, only, one, same)) = (
    tt,
    only_lined d made fault
        (subst (λ (x : Data). OnlyMemory (takes x) (reads x) made) (one_document text (table m) d own document) only) same,
  )

  pub read_with_returns : (result : Result T Fault) → IsUtf8 text → ReadsText takes reads faults text result
      → has_return text ≡ false → (d : Data) → IsDocument (folded (with_returns text)) d → ReadsData takes reads d result
  read_with_returns result utf8 read none d document =
      read_from d result ((returns_mean_nothing text d utf8 none).1 document) read

  pub read_with_mark : (result : Result T Fault) → ReadsText takes reads faults text result → has_byte_order_mark text ≡ false
      → (d : Data) → IsDocument (folded (with_byte_order_mark text)) d → ReadsData takes reads d result
  read_with_mark result read none d document =
      read_from d result ((byte_order_mark_means_nothing text d none).1 document) read

  pub read_by_older_rules : (result : Result T Fault) → ReadsText takes reads faults text result
      → has_no_delete (folded text) ≡ true → (d : Data) → WasDocument (folded text) d → ReadsData takes reads d result
  read_by_older_rules result read none d document = read_from d result (old (folded text) d none document) read
