use Rattle.std.proofs.Common.{[], ◌∷◌, ◌++◌, map, ◌∙◌, arith, refl, ap, append_assoc}
use Rattle.std.proofs.lemmas.List.{map_push, nil_from_length, same_from_push}
use Rattle.basic_toml_plain.proofs.PartsOfRows.{all_tables, parts_are_plain, parts_are_simple}
use Rattle.basic_toml_grow.specs.Simple.{table_of}
use Rattle.basic_toml_grow.proofs.sections.block_tables.Goals as goal

pub first_table-requires-clause-plain : goal.first_table-requires-clause-plain
first_table-requires-clause-plain c =
    parts_are_plain c.loop-own.invariant.left.0 c.loop-own.rows _ c.loop-own.invariant.left.1

pub first_table-requires-2-clause-plain : goal.first_table-requires-2-clause-plain
first_table-requires-2-clause-plain c =
    parts_are_plain c.loop-own.invariant.left.0 c.loop-own.rows _ c.loop-own.invariant.left.1

-- the tables made are all, and the latest is that of the last section
pub returns : goal.returns
returns c =
    let rows = c.into_parts-rows.result.0 in
    let sections = c.into_parts-rows.result.1.items in
    let last = c.into_parts-rows.result.2 in
    let parted = c.into_parts-rows.ensures in
    let whole = c.args.block in
    let before = c.args.earlier.now.items in
    let left = c.loop-own.own-iterator.rest in
    let all = all_tables rows sections last whole parted.plain (rw (parted.earlier, parted.latest) refl) in
    let none = nil_from_length left.items (omega (arith, c.in-None.ensures.steps.0, left.ok.0)) in
    let equal = rw (none, c.into_iter-own-iterator.ensures.into_iter_gives.0, all) at c.loop-own.invariant.made in
    let made = same_from_push c.loop-own.earlier.items (before ++ map table_of whole.0) c.in_ok-latest.latest
    (table_of whole.1)
    (rw (c.in_ok-latest.ensures.table, append_assoc) (equal ∙ ap (λ l. before ++ l) (map_push table_of whole.0 whole.1))) in
    record {
      earlier = made.0;
      latest = made.1;
      simple = rw all at (parts_are_simple 0 rows (sections ++ last ∷ []) parted.plain);
    }
