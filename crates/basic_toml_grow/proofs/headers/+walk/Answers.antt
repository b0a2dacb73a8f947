use Rattle.std.proofs.Common.{◌≡◌, ℕ, ◌+◌, [], true, false, refl, ap, sym, ◌∙◌, arith, rules}
use Rattle.std.proofs.lemmas.Result.{err_from_is_err_and}
use Rattle.basic_toml_grow.proofs.ItemTries.{child_item_trie}
use denote.Hole.Carrier.{out}
use Rattle.std.specs.Box as boxes
use Rattle.basic_toml_read.specs.declared.section.Raw as raws
use Rattle.basic_toml_read.specs.declared.section.Rows as tables
use Rattle.basic_toml_read.specs.SectionView.{header_texts, rows_view}
use Rattle.basic_toml_plain.specs.PlainTables.{with_table}
use Rattle.basic_toml_plain.proofs.PlainValues.{few_lower}
use Rattle.basic_toml_plain.proofs.WhatIsLeft.{nothing_left}
use Rattle.basic_toml_grow.specs.declared.item.Item as items
use Rattle.basic_toml_grow.specs.declared.item.Item.TheViews.{out-Item}
use Rattle.basic_toml_grow.specs.Headers.{IsNew, is_last}
use Rattle.basic_toml_grow.proofs.HeadersGoOn.{Leads, from_deep_value, from_item, from_key, from_latest}
use Rattle.basic_toml_grow.proofs.HeadersGoOn.{from_table, from_value, lead, lead_more, no_new_section, not_last}
use Rattle.basic_toml_grow.proofs.HeadersEntered.{out_holding}
use Rattle.basic_toml_grow.specs.declared.item.Child.{out-Child}
use Rattle.basic_toml_grow.proofs.RowsKept.{CanStay, back_view, can_stay, stay_at_key, stay_in_first, stay_in_next}
use Rattle.basic_toml_grow.proofs.headers.+walk.Goals as goal
use Rattle.basic_toml_grow.proofs.headers.+walk.Goals.{enter_element-In_ok-place, enter_last-In_ok-kept}

-- what stands at a key leads on to the item from which the code goes on
leads : (t : ℕ) (c : goal.enter_at-After-enter_item t) → (item : items.Item)
    × ((out-Child c.if-is_array.there ≡ record (out-Child c.unfold.new.self) { item = item })
    × Leads c.args.is_array (rows_view c.args.rows.now) (header_texts c.args.rest.now) (c.args.level + 1)
    c.args.is_new (out-Child c.unfold.new.self).item item)
leads t c =
    let keys = c.args.rest.now in
    let mid = c.unfold.new.self in
    let new : c.args.is_new ≡ true → IsNew (is_last c.args.is_array (header_texts keys)) (out-Child mid).item = λ is.
    rw (c.in_ok-unfold.ensures.others (no_new_section _ _ (c.requires.new is))) (c.requires.new is) in
    elim c.if-is_array.branch [
      | goal.enter_at-then-is_array+then-is_empty+then-not-is_new+in_ok-add_table w ↦
          let none = nothing_left keys (grind (arith, w.is_empty.ensures, w.if-is_empty.true)) in
          rw (w.if-is_array.true, none, w.if-not-is_new.true, w.there-is)
          (_, (out_holding mid _, lead_more _ _ w.in_ok-add_table.ensures.more))
      | goal.enter_at-else-is_array w ↦
          let not : c.args.is_new ≡ false → is_last c.args.is_array (header_texts keys) ≡ false =
          elim w.else-is_array.branch [
            | goal.enter_at-else-is_array-via-then-is_array+then-is_empty+else-not-is_new v ↦
                λ not. absurd (cc (not, v.if-not-is_new.false))
            | goal.enter_at-else-is_array-via-then-is_array+else-is_empty v ↦
                λ not. not_last _ keys (grind (arith, v.is_empty.ensures, v.if-is_empty.false))
            | goal.enter_at-else-is_array-via-else-is_array v ↦
                λ not. ap (λ b. is_last b (header_texts keys)) v.if-is_array.false
          ] in
          rw w.there-is (_, (refl, lead _ _ _ _ _ _ new not))
    ]

pub enter_at-returns-clause-takes : goal.enter_at-returns-clause-takes
enter_at-returns-clause-takes t c =
    let on = leads t c in
    from_item c.unfold.new.self c.in_ok-unfold.ensures.trie c.in_ok-unfold.ensures.origins on.1.0 on.1.1
    c.enter_item.ensures.takes

pub enter_at-returns-in_err-add_table-clause-takes : goal.enter_at-returns-in_err-add_table-clause-takes
enter_at-returns-in_err-add_table-clause-takes t c =
    let none = nothing_left c.args.rest.now (grind (arith, c.is_empty.ensures, c.if-is_empty.true)) in
    let clash = err_from_is_err_and c.from_residual-in_err-add_table.result
    c.from_residual-in_err-add_table.ensures.1 in
    let trie = sym c.in_ok-unfold.ensures.trie ∙ child_item_trie c.unfold.new.self in
    rw (c.if-is_array.true, none, c.if-not-is_new.true, clash.1, clash.2) (record {
      entered = rw trie (c.in_err-add_table.ensures.out _);
      named = rw trie (c.in_err-add_table.ensures.named _);
      origins = tt;
      marks = tt;
    })

-- by a header's last key, where rows can stay as they were read
stay_last : (t : ℕ) (c : enter_last-In_ok-kept t) → CanStay c.args.rows.now (c.args.level + 1)
stay_last t c = can_stay c.args.rows.now (c.args.level + 1) c.is_empty.ensures c.if-not-is_empty.false
    c.as_slice.ensures.value c.are_few_simple.ensures c.if-not-are_few_simple.false

pub enter_last-new-requires : goal.enter_last-new-requires
enter_last-new-requires t c =
    let stay = stay_last t (goal.at.enter_last-new-requires t c).In_ok-kept in
    rw c.in_ok-kept.ensures.tail (few_lower _ _ stay.few)

pub enter_last-returns-then-place : goal.enter_last-returns-then-place
enter_last-returns-then-place t c =
    let stay = stay_last t (goal.at.enter_last-returns-then-place t c).In_ok-kept in record {
      takes = from_key c.args.key.now [] c.as_str.ensures.value (omega arith) c.in_ok-place.ensures.entered
          c.value_mut-there.ensures.value
          (stay_at_key c.if-place.true stay (omega arith) (c.new.ensures ∙ c.in_ok-kept.ensures.tail) c.at.ensures.trie
          c.at.ensures.origins);
      taken = search (rules, stay.none, c.in_ok-kept.ensures.items, raws.the_lemmas);
    }

pub enter_last-returns-clause-takes : goal.enter_last-returns-clause-takes
enter_last-returns-clause-takes t c =
    from_key c.args.key.now [] c.as_str.ensures.value (omega arith) c.in_ok-place.ensures.entered
    c.value_mut-there.ensures.value
    (rw (← back_view c.args.rows.now c.split_off.new.self c.in_ok-kept.kept c.in_ok-kept.ensures.tail)
    c.enter_at.ensures.takes)

-- by the last key of an array's header, where rows can stay as they were read
stay_element : (t : ℕ) (c : enter_element-In_ok-place t) → CanStay c.args.rows.now (c.args.level + 2)
stay_element t c = can_stay c.args.rows.now (c.args.level + 2) c.is_empty.ensures c.if-not-is_empty.false
    c.as_slice.ensures.value c.are_few_simple.ensures c.if-not-are_few_simple.false

pub enter_element-new-requires : goal.enter_element-new-requires
enter_element-new-requires t c =
    few_lower _ _ (stay_element t (goal.at.enter_element-new-requires t c).In_ok-place).few

pub enter_element-push-requires : goal.enter_element-push-requires
enter_element-push-requires t c =
    few_lower _ _ (stay_element t (goal.at.enter_element-push-requires t c).In_ok-place).few

-- the first one
pub enter_element-returns-then-place : goal.enter_element-returns-then-place
enter_element-returns-then-place t c =
    let stay = stay_element t (goal.at.enter_element-returns-then-place t c).In_ok-place in record {
      takes = from_key c.args.key.now [] c.as_str.ensures.value (omega arith) c.in_ok-place.ensures.entered
          c.value_mut-there.ensures.value
          (stay_in_first c.if-place.true stay (omega arith) c.in_ok-tables.tables c.in_ok-tables.ensures.tables
          c.at.ensures.trie c.at.ensures.origins);
      taken = search (rules, stay.none, c.in_ok-tables.ensures.taken, raws.the_lemmas);
    }

-- one after others
pub enter_element-returns-in-Sections : goal.enter_element-returns-in-Sections
unfolding out-Item out
enter_element-returns-in-Sections t c =
    let stay = stay_element t (goal.at.enter_element-returns-in-Sections t c).In_ok-place in
    let old = c.in-Sections.tables in
    let more = c.in_ok-push.ensures.tables
    ∙ ap (λ ts. with_table ts (c.args.number, (tables.out-Rows c.args.rows.now).rows.items))
    (c.deref_mut.ensures.value ∙ rw c.in-Sections.is refl) in
    let on = from_key {t = c.args.table.now} c.args.key.now [] c.as_str.ensures.value (omega arith)
    c.in_ok-place.ensures.entered c.value_mut-there.ensures.value
    (stay_in_next {level = c.args.level} {child = c.value_mut-there.result.now} old
    (boxes.with_value old c.push.new.self) stay (omega arith) c.if-place.false c.in-Sections.is more) in record {
      takes = rw c.in-Sections.is on;
      taken = search (rules, stay.none, c.in_ok-push.ensures.taken, raws.the_lemmas);
    }

-- where the array has entries already, or none stands there
pub enter_element-returns-clause-takes : goal.enter_element-returns-clause-takes
enter_element-returns-clause-takes t c =
    from_key c.args.key.now [] c.as_str.ensures.value (omega arith) c.in_ok-place.ensures.entered
    c.value_mut-there.ensures.value (rw c.if-place.false c.enter_at.ensures.takes)

-- by any key
pub enter_below-returns-clause-takes : goal.enter_below-returns-clause-takes
enter_below-returns-clause-takes t c =
    from_key c.args.key.now c.args.rest.now c.as_str.ensures.value (omega arith) c.in_ok-place.ensures.entered
    c.value_mut-there.ensures.value c.enter_at.ensures.takes

-- on from a table
pub enter_item-returns-in-Table-clause-takes : goal.enter_item-returns-in-Table-clause-takes
unfolding out-Item out
enter_item-returns-in-Table-clause-takes t c =
    rw c.in-Table.is
    (from_table c.in-Table.table (rw (c.deref_mut.ensures.value, c.in-Table.is) at c.enter_header.ensures.takes))

-- on from the latest table of an array
pub enter_item-returns-in-Tables-clause-takes : goal.enter_item-returns-in-Tables-clause-takes
unfolding out-Item out
enter_item-returns-in-Tables-clause-takes t c =
    let held : c.deref_mut-in-Tables.result.now ≡ c.in-Tables.tables.value =
    c.deref_mut-in-Tables.ensures.value ∙ rw c.in-Tables.is (search (rules, items.the_lemmas)) in
    rw (c.in-Tables.is, held) (from_latest c.in-Tables.tables (rw held at c.enter_header-in-Tables.ensures.takes))

-- a value stands there
pub enter_item-returns-then-level-ge-NESTING_LIMIT-clause-takes :
    goal.enter_item-returns-then-level-ge-NESTING_LIMIT-clause-takes
enter_item-returns-then-level-ge-NESTING_LIMIT-clause-takes t c =
    from_deep_value c.args.rest.now c.requires.unfolded c.in_default.not-Table c.in_default.not-Tables (omega arith)

pub enter_item-returns-else-level-ge-NESTING_LIMIT-clause-takes :
    goal.enter_item-returns-else-level-ge-NESTING_LIMIT-clause-takes
enter_item-returns-else-level-ge-NESTING_LIMIT-clause-takes t c =
    from_value c.args.rest.now c.requires.unfolded c.in_default.not-Table c.in_default.not-Tables (omega arith)
