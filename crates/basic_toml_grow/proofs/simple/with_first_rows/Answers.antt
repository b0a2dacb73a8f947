use Rattle.std.proofs.Common.{sym, ◌∙◌, take}
use Rattle.std.proofs.lemmas.List.{take-map}
use Rattle.basic_toml_plain.specs.Plain.{key_of}
use Rattle.basic_toml_grow.proofs.SimpleRows.{entry_texts}
use Rattle.basic_toml_grow.proofs.simple.with_first_rows.Goals as goal

pub from_parts-entries-requires : goal.from_parts-entries-requires
from_parts-entries-requires c =
    let rows = c.args.rows.now in
    let keys = entry_texts c.args.section (take c.args.count rows) c.in_ok-entries_of.field-0.items
    c.in_ok-entries_of.ensures.entries ∙ sym (take-map key_of c.args.count rows) in
    rw keys c.requires.index
