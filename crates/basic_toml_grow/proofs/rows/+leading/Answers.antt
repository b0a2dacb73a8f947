use Rattle.std.proofs.Common.{◌≡◌, ap, ◌∙◌, refl, rules}
use denote.Hole.Carrier.{out}
use Rattle.basic_toml_grow.specs.declared.item.Item.TheViews.{out-Item, out-roll-Table, roll-Table}
use Rattle.basic_toml_grow.proofs.ItemTries.{table_child_trie}
use Rattle.basic_toml_grow.proofs.Origins.RowsPlaceOrigins.{child_of_table}
use Rattle.basic_toml_grow.proofs.RowsEntered.{dots_extend, dots_taken}
use Rattle.basic_toml_grow.proofs.MetTellsStop.{dotted_fields, extended_refused, named_refuses, other_refuses}
use Rattle.basic_toml_grow.proofs.rows.+leading.Goals as goal

pub enter_dotted-returns : goal.enter_dotted-returns
enter_dotted-returns t c =
    let there = c.value_mut-there.result.now in
    let e = c.in_ok-place.ensures.entered in
    let stands = rw out-roll-Table at c.value_mut-there.ensures.value in
    rw out-roll-Table (dots_taken c.extend.result c.as_str.ensures.value e stands (λ is_new.
    let made = e.made is_new in
    let same : e.there ≡ there = cc (e.stands, stands) in
    rw (← same) (search rules, search rules)) c.extend.ensures)

-- what dots extend, and what refuses them
pub extend-returns-then-deref : goal.extend-returns-then-deref
unfolding out-Item out
extend-returns-then-deref t c =
    let same : c.deref.result.now ≡ c.in-Table.table.value = c.deref.ensures ∙ rw c.in-Table.is refl in
    extended_refused c.args.keys.now c.args.last.now c.args.child c.args.there.now
    (named_refuses c.args.there.now c.in-Table.table c.in-Table.is (rw same at c.if-deref.true))

pub extend-returns-in_default : goal.extend-returns-in_default
extend-returns-in_default t c =
    extended_refused c.args.keys.now c.args.last.now c.args.child c.args.there.now
    (other_refuses c.args.there.now c.in_default.not-Table)

pub extend-returns-else-deref : goal.extend-returns-else-deref
unfolding out-Item out
extend-returns-else-deref t c =
    let same : c.deref_mut.result.now ≡ c.in-Table.table.value = c.deref_mut.ensures.value ∙ rw c.in-Table.is refl in
    let was : c.deref.result.now ≡ c.in-Table.table.value = c.deref.ensures ∙ rw c.in-Table.is refl in
    dots_extend {now = c.enter_row.new.table} c.enter_row.result c.in-Table.is (rw was at c.if-deref.false)
    (c.deref_mut-in-Table.ensures.value ∙ ap (λ t. roll-Table (dotted_fields t)) same)
    (rw c.in-Table.is (table_child_trie _ _ _)) (rw c.in-Table.is (child_of_table _ _ _)) c.enter_row.ensures
