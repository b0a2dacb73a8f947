use Rattle.std.proofs.Common.{◌≡◌, map, ap, ◌∙◌, take, arith}
use Rattle.std.proofs.lemmas.List.{length-map, take_all}
use Rattle.basic_toml_plain.specs.Plain.{key_of}
use Rattle.basic_toml_grow.specs.Simple.{entries_of}
use Rattle.basic_toml_grow.proofs.SimpleRows.{entry_texts}
use Rattle.basic_toml_grow.proofs.simple.with_rows.Goals as goal

pub from_parts-requires : goal.from_parts-requires
from_parts-requires c =
    let rows = c.args.rows.now.items in
    let all : take c.len-count.result c.drain-left.result ≡ rows =
    rw (c.drain-left.ensures, c.replace.ensures.value)
    (take_all c.len-count.result rows (omega (arith, c.len-count.ensures, c.args.rows.now.ok.0))) in
    rw (entry_texts c.args.section rows c.in_ok-entries.entries.items
    (c.in_ok-entries.ensures.entries ∙ ap (entries_of c.args.section) all))
    (c.none.ensures (map key_of rows) c.requires.distinct (omega (arith, length-map rows key_of, c.requires.few)))
