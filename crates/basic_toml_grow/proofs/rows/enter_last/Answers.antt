use Rattle.basic_toml_grow.specs.declared.item.Item.TheViews.{out-roll-Table}
use Rattle.basic_toml_grow.proofs.RowsEntered.{last_met, last_taken}
use Rattle.basic_toml_grow.proofs.rows.enter_last.Goals as goal

pub returns-then-place : goal.returns-then-place
returns-then-place c =
    let e = c.in_ok-place.ensures.entered in
    last_taken _ _ c.enter_value.new.self _ e e.there e.stands (e.made c.if-place.true) c.if-place.true

pub returns : goal.returns
returns c =
    let stands = rw out-roll-Table at c.value.ensures in
    let met = c.what_is_met.ensures in
    last_met _ _ c.enter_value.new.self c.in_ok-place.place c.in_ok-place.ensures.entered c.value.result.now stands
    met.stands met.named c.if-place.false
