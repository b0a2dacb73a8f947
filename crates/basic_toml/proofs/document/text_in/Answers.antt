use Rattle.std.proofs.Common.{◌≡◌, true, arith, sym, ◌∙◌, string_bytes}
use Rattle.std.proofs.lemmas.Grind.{common_steps}
use Rattle.basic_toml_value.specs.View.{entries}
use Rattle.basic_toml.proofs.DocumentOf.{written}
use Rattle.basic_toml.proofs.document.text_in.Goals as goal

pub returns-clause-text : goal.returns-clause-text
returns-clause-text c =
    let yes : c.table_nests_within.result ≡ true = grind (arith, common_steps) in
    written c.args.style (entries c.args.table.now) (string_bytes c.in_ok-document_text.field-0) (c.table_nests_within.ensures.valid yes)
    (sym c.table_nests_within.ensures.within ∙ yes) c.in_ok-document_text.ensures.text
