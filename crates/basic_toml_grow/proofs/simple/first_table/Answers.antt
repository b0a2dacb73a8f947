use Rattle.std.proofs.Common.{map, take, arith}
use Rattle.std.proofs.lemmas.Bool.{and_parts}
use Rattle.std.proofs.lemmas.List.{length-map}
use Rattle.basic_toml_plain.specs.Plain.{key_of}
use Rattle.basic_toml_plain.proofs.SimpleKeys.{few_are_simple, keys_differ}
use Rattle.basic_toml_grow.proofs.SimpleRows.{entry_texts}
use Rattle.basic_toml_grow.proofs.simple.first_table.Goals as goal

pub from_parts-requires : goal.from_parts-requires
from_parts-requires c =
    let rows = take c.args.own.count c.args.rows.now in
    rw (entry_texts c.args.own.section rows c.in_ok-entries.entries.items c.in_ok-entries.ensures.entries)
    (c.none.ensures (map key_of rows) (keys_differ 0 rows (few_are_simple 0 rows c.requires.simple))
    (grind (arith, length-map rows key_of, and_parts, c.requires.simple)))
