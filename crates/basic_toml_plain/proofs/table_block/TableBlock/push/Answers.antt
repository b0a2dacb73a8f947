use Rattle.std.proofs.Common.{◌≡◌, ◌++◌, ◌∷◌, [], length, refl, arith}
use Rattle.std.proofs.lemmas.List.{drop_at}
use Rattle.basic_toml_plain.specs.declared.section_rows.SectionRows.{SectionRows}
use Rattle.basic_toml_plain.proofs.PartsOfRows.{all_tables, are_parts_push, parts_more}
use Rattle.basic_toml_plain.proofs.table_block.TableBlock.push.Goals as goal

pub invariant_of-self-2 : goal.invariant_of-self-2
invariant_of-self-2 c =
    let ss = c.self.inside.earlier.items ++ c.self.inside.latest ∷ [] in
    let s : SectionRows = record { section = c.args.section; start = c.len-start.result; count = c.len-count.result } in
    rw (
      c.in_ok-append.ensures.items,
      c.push_reserved.ensures.items,
      c.in_ok-try_reserve.ensures.items,
    )
    (are_parts_push 0 c.self.inside.rows.items c.args.rows.now.items ss s c.self.invariant
    (omega (arith, c.len-start.ensures)) (omega (arith, c.len-count.ensures)) c.requires)

pub returns-clause-tables : goal.returns-clause-tables
returns-clause-tables c =
    let rows = c.self.inside.rows.items in
    let start : length rows ≡ c.len-start.result = omega (arith, c.len-start.ensures) in
    rw (
      c.in_ok-append.ensures.items,
      c.push_reserved.ensures.items,
      c.in_ok-try_reserve.ensures.items,
      parts_more 0 rows _ _ c.self.invariant,
      all_tables _ _ _ _ c.self.invariant c.self.view_is,
      drop_at rows _ c.len-start.result start,
    ) refl
