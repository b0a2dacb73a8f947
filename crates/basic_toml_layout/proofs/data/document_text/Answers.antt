use Rattle.std.proofs.Common.{[], ◌++◌, sym, ◌∙◌}
use Rattle.basic_toml_value.specs.View.{entries}
use Rattle.basic_toml_layout.specs.Style.{style_of}
use Rattle.basic_toml_layout.specs.Document.{document_text}
use Rattle.basic_toml_layout.proofs.data.document_text.Goals as goal

pub returns-clause-text : goal.returns-clause-text
returns-clause-text c =
    c.in_ok-write_entries.ensures.text [] (sym c.new-path.ensures.bytes)
    ∙ (λ i. c.new-text.ensures.bytes i ++ document_text (style_of c.args.style) (entries (c.entries.ensures.pairs i)))
