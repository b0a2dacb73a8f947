use Rattle.std.proofs.Common.{◌≡◌, ◌+◌, ◌-◌, ◌*◌, ◌/◌, ◌%◌, ◌<◌, ◌++◌, arith, length, refl, sym, append_assoc, Some, slice_get, length-append}
use Rattle.std.proofs.lemmas.Bool.{ltb-true, ltb-false}
use Rattle.std.proofs.lemmas.Option.{slice_get_read}
use Rattle.basic_toml_plain.specs.PlainTables.{all_in, tables_in}
use Rattle.basic_toml_plain.proofs.TablesInBlocks.{after_blocks, in_block, is_told, tables_count}
use Rattle.basic_toml_plain.proofs.tables.PlainTables.get.Goals as goal

pub returns-in-Some-clause-table : goal.returns-in-Some-clause-table
returns-in-Some-clause-table c =
    let full = c.self.inside.full.items in
    let block = c.in-Some.block.now in
    let lookup = c.in-Some.ensures.lookup in
    let within = ltb-true (c.args.at / 64) (length c.deref.result.now) (sym lookup.0) in
    let there : slice_get full (c.args.at / 64) ≡ Some block =
    slice_get_read full (length full) _ block refl (rw (← c.deref.ensures.value) within) (cc (lookup.1, c.deref.ensures.value)) in
    let last = tables_in c.self.inside.last in
    let at : c.args.at / 64 * 64 + c.args.at % 64 ≡ c.args.at = omega arith in
    let stands = rw at at (in_block full last (c.args.at / 64) (c.args.at % 64) block c.self.invariant.0 there (omega arith)) in
    rw (← c.self.view_is, append_assoc)
    (is_told (λ t. (t.0, t.1.now)) (tables_in block) (all_in full ++ last) (c.args.at % 64) c.args.at
    c.get-in-Some.result (sym stands.0) (λ past. absurd (omega (arith, stands.1))) c.get-in-Some.ensures.table)

pub returns-in-None-clause-table : goal.returns-in-None-clause-table
returns-in-None-clause-table c =
    let full = c.self.inside.full.items in
    let last = tables_in c.self.inside.last in
    let past = ltb-false (c.args.at / 64) (length c.deref.result.now) (sym c.in-None.ensures.lookup.0) in
    let count = tables_count full c.self.invariant.0 in
    let n = c.args.at - c.len.result * 64 in
    let at : n + length full * 64 ≡ c.args.at = omega arith in
    let same = rw at at (after_blocks full last n c.self.invariant.0) in
    rw (← c.self.view_is, append_assoc)
    (is_told (λ t. (t.0, t.1.now)) last (all_in full ++ last) n c.args.at c.get-in-None.result (sym same)
    (λ past. omega (arith, length-append (all_in full) last)) c.get-in-None.ensures.table)
