use Rattle.std.proofs.Common.{◌≡◌, ◌++◌, Some, option_map, sym, subst, string_bytes}
use Rattle.std.specs.List.{list_any}
use Rattle.check_keys.proofs.FindingsSoFar.{noted, on_ok}
use Rattle.check_keys.specs.Findings.{Remembers, findings_by, is_long, seen_by}
use Rattle.check_keys.specs.Rows.{item_of}
use Rattle.check_keys.proofs.keys.note.Goals as goal

pub returns : goal.returns
returns c =
    on_ok c.add-2.result _ _ c.add-2.ensures (λ came before remembered.
    let kept = c.in_ok-is_new.ensures before remembered in
    subst (λ item. Remembers c.remember.new.seen (seen_by before (option_map item_of item))
    × (c.add-2.new.findings.items
    ≡ c.args.findings.now.items ++ findings_by c.args.text.now before (option_map item_of item)))
    (sym c.in-Some.is)
    (subst (λ item. Remembers c.remember.new.seen (seen_by before (Some (item_of item)))
    × (c.add-2.new.findings.items
    ≡ c.args.findings.now.items ++ findings_by c.args.text.now before (Some (item_of item))))
    (sym c.in-RowKey.is) (
      kept.1,
      noted c.args.text.now c.in-RowKey.key.offset c.in-RowKey.key.parts.items before c.is_long-is_long.result
          c.in_ok-is_new.is_new c.found.result c.found-2.result c.args.findings.now.items c.add.new.findings.items
          c.add-2.new.findings.items
          (subst (λ parts. c.is_long-is_long.result ≡ list_any (λ part. is_long (string_bytes part)) parts)
          c.as_slice.ensures.value c.is_long-is_long.ensures)
          kept.0 c.found.ensures c.found-2.ensures c.in_ok-add.ensures came,
    )))
