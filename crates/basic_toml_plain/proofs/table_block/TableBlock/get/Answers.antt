use Rattle.std.proofs.Common.{◌≡◌, ◌+◌, ◌-◌, ◌<◌, ◌++◌, ◌∷◌, [], length, get_or, refl, ap, sym, arith}
use Rattle.std.proofs.Math.Seq.{get_or-append_seam}
use Rattle.std.proofs.lemmas.Bool.{ltb-true, ltb-false}
use Rattle.std.proofs.lemmas.List.{get_or_append_left, length_push}
use Rattle.std.proofs.lemmas.Option.{slice_get_read}
use Rattle.basic_toml_plain.proofs.PartsOfRows.{StandsAt, all_tables, stands_at, tables_count}
use Rattle.basic_toml_plain.proofs.table_block.TableBlock.get.Goals.{After-deref-2, then-at-len, else-at-len+in_ok-own}
use Rattle.basic_toml_plain.proofs.table_block.TableBlock.get.Goals as goal

-- the section at the number
own_stands : (c : After-deref-2)
    → StandsAt 0 c.self.inside.rows.items (c.self.inside.earlier.items ++ c.self.inside.latest ∷ []) c.args.at
    c.if-at-len.own
own_stands c =
    let ss = c.self.inside.earlier.items in
    let s = c.self.inside.latest in
    let own = c.if-at-len.own in
    let all = ss ++ s ∷ [] in
    let count = length_push ss s in
    let there : (c.args.at < length all) × (own ≡ get_or all c.args.at own) =
    elim c.if-at-len.branch [
      | then-at-len w ↦
          let at : c.args.at ≡ length ss = omega arith in
          let latest = get_or-append_seam ss s [] own in
          (omega arith, cc (w.own-is))
      | else-at-len+in_ok-own w ↦
          let lookup = w.in_ok-own.ensures.lookup in
          let past = ltb-true c.args.at (length w.deref.result.now) (sym lookup.0) in
          let within : c.args.at < length ss = omega (arith, ap length w.deref.ensures.value) in
          let earlier = get_or_append_left ss (s ∷ []) own c.args.at within in
          (omega arith, cc (w.own-is, lookup.1, w.deref.ensures.value))
    ] in
    stands_at 0 c.self.inside.rows.items all c.args.at own c.self.invariant
    (slice_get_read all (length all) c.args.at own refl there.0 there.1)

pub returns-in_err-own-clause-table : goal.returns-in_err-own-clause-table
returns-in_err-own-clause-table c =
    let count = tables_count _ _ _ _ c.self.invariant c.self.view_is in
    let past = ltb-false c.args.at (length c.deref.result.now) (sym c.in_err-own.ensures.lookup.0) in
    rw c.from_residual.ensures (omega (arith, ap length c.deref.ensures.value))

pub overflow_add-result : goal.overflow_add-result
overflow_add-result c = let own = own_stands c in omega arith

pub offset_bounds-deref-own : goal.offset_bounds-deref-own
offset_bounds-deref-own c = let own = own_stands c in omega arith

pub slice_bounds-result-end : goal.slice_bounds-result-end
slice_bounds-result-end c = let own = own_stands c in omega (arith, ap length c.deref-2.ensures.value)

pub returns : goal.returns
returns c =
    let s = c.if-at-len.own in
    let own = own_stands (goal.at.returns c).After-deref-2 in
    let start : s.start ≡ own.from = omega (arith, own.start) in
    let count : s.start + s.count - s.start ≡ s.count = omega arith in
    record {
      table =
          rw (c.deref-2.ensures.value, count, start, ← all_tables _ _ _ _ c.self.invariant c.self.view_is) own.table;
      plain = rw (c.deref-2.ensures.value, count, start) own.few;
    }
