use Rattle.std.proofs.Common.{◌≡◌, ◌++◌, length, refl, sym, ap, subst, ◌∙◌, arith, IsTrue}
use Rattle.std.proofs.lemmas.Bool.{and_from}
use Rattle.std.proofs.lemmas.List.{append-nil}
use Rattle.basic_toml_value.specs.Entries.{seen}
use Rattle.basic_toml_index.specs.Keys.{are_distinct}
use Rattle.basic_toml_value.specs.View.{entries, items_view}
use Rattle.basic_toml_value.specs.declared.pairs.Pair.{Pair}
use Rattle.basic_toml_value.specs.declared.value.Value.{Value}
use Rattle.basic_toml_value.proofs.Sizes.{items_size, members_size}
use Rattle.basic_toml_order.specs.RowsFirst.{followed_by, members_rows_first, rows_of}
use Rattle.basic_toml_write.specs.DataFits.{member_keys}
use Rattle.basic_toml_order.specs.Sound.{hold_sound}
use Rattle.basic_toml_order.proofs.KeysStayDistinct.{member_keys-seen, distinct-rows_first}
use Rattle.basic_toml_order.proofs.MovedParts.{element_moved, element_sound, elements_moved, pair_sound, row_moved}
use Rattle.basic_toml_order.proofs.MovedParts.{section_moved, row_passed, section_passed, rows_moved, sections_moved}
use Rattle.basic_toml_order.proofs.MovedParts.{nothing_left, entries-followed}
use Rattle.basic_toml_order.proofs.order.+moves.Goals as goal

pub elements_rows_first-value_rows_first-requires : goal.elements_rows_first-value_rows_first-requires
elements_rows_first-value_rows_first-requires t c =
    let start = ap (λ vs. items_size (items_view vs)) c.into_iter-value-iterator.ensures.into_iter_gives.0 in
    let here = ap (λ vs. items_size (items_view vs)) c.in-Some.ensures.steps.0 in
    (omega (arith, start, here, c.loop-value.invariant.smaller), tt)

pub elements_rows_first-loop-value-preserved : goal.elements_rows_first-loop-value-preserved
elements_rows_first-loop-value-preserved t c = record {
  order = element_moved c.loop-value.moved.items c.push.new.self.items c.loop-value.value-iterator.rest.items
      c.next.new.self.rest.items c.in_ok-value_rows_first.field-0 c.in-Some.value c.in-Some.ensures.steps.0 _
      c.in_ok-push.ensures.items c.in_ok-value_rows_first.ensures.order c.loop-value.invariant.order;
  sound = λ more. c.loop-value.invariant.sound (element_sound c.loop-value.moved.items c.push.new.self.items
      c.loop-value.value-iterator.rest.items c.next.new.self.rest.items c.in_ok-value_rows_first.field-0
      c.in-Some.value c.in-Some.ensures.steps.0 c.in_ok-value_rows_first.ensures.sound more);
  smaller = let here = ap (λ vs. items_size (items_view vs)) c.in-Some.ensures.steps.0 in
      omega (arith, here, c.loop-value.invariant.smaller);
}

pub elements_rows_first-returns-clause-order : goal.elements_rows_first-returns-clause-order
elements_rows_first-returns-clause-order t c =
    let start = c.into_iter-value-iterator.ensures.into_iter_gives.0 in
    elements_moved c.loop-value.moved.items c.loop-value.value-iterator.rest.items _
    (omega (arith, c.in-None.ensures.steps.0, c.loop-value.value-iterator.rest.ok.0))
    (c.loop-value.invariant.order ∙ rw start refl)

pub pairs_rows_first-value_rows_first-requires : goal.pairs_rows_first-value_rows_first-requires
pairs_rows_first-value_rows_first-requires t c =
    let start = ap (λ ps. members_size (entries (seen ps))) c.into_iter-pair-iterator.ensures.into_iter_gives.0 in
    let here = ap (λ ps. members_size (entries (seen ps))) c.in-Some.ensures.steps.0 in
    (omega (arith, start, here, c.loop-pair.invariant.smaller), tt)

pub pairs_rows_first-loop-pair-preserved-in-Continue-branch-3 :
    goal.pairs_rows_first-loop-pair-preserved-in-Continue-branch-3
pairs_rows_first-loop-pair-preserved-in-Continue-branch-3 t c =
    let left = c.loop-pair.pair-iterator.rest.items in
    let rest = c.next.new.self.rest.items in
    let done : Pair Value = record { key = c.in-Some.pair.key; value = c.in_ok-value.value } in
    let is = sym c.is_section-is_section.ensures ∙ c.if-is_section.true in record {
      rows = row_passed c.loop-pair.rows.items left rest c.in-Some.pair _ c.in-Some.ensures.steps.0 is
          c.loop-pair.invariant.rows;
      sections = section_moved c.loop-pair.sections.items c.push.new.self.items left rest done c.in-Some.pair
          c.in-Some.ensures.steps.0 _ is c.in_ok-push.ensures.items refl c.in_ok-value.ensures.order
          c.loop-pair.invariant.sections;
      sound = λ more. c.loop-pair.invariant.sound (pair_sound c.loop-pair.rows.items c.loop-pair.rows.items left rest
          done c.in-Some.pair c.in-Some.ensures.steps.0 c.in_ok-value.ensures.sound more);
      smaller = let here = ap (λ ps. members_size (entries (seen ps))) c.in-Some.ensures.steps.0 in
          omega (arith, here, c.loop-pair.invariant.smaller);
    }

pub pairs_rows_first-loop-pair-preserved : goal.pairs_rows_first-loop-pair-preserved
pairs_rows_first-loop-pair-preserved t c =
    let left = c.loop-pair.pair-iterator.rest.items in
    let rest = c.next.new.self.rest.items in
    let done : Pair Value = record { key = c.in-Some.pair.key; value = c.in_ok-value.value } in
    let is = sym c.is_section-is_section.ensures ∙ c.if-is_section.false in record {
      rows = row_moved c.loop-pair.rows.items c.push-else-is_section.new.self.items left rest done c.in-Some.pair
          c.in-Some.ensures.steps.0 _ is c.in_ok-push-2.ensures.items refl c.in_ok-value.ensures.order
          c.loop-pair.invariant.rows;
      sections = section_passed c.loop-pair.sections.items left rest c.in-Some.pair _ c.in-Some.ensures.steps.0 is
          c.loop-pair.invariant.sections;
      sound = λ more. c.loop-pair.invariant.sound (pair_sound c.loop-pair.rows.items c.loop-pair.rows.items left rest
          done c.in-Some.pair c.in-Some.ensures.steps.0 c.in_ok-value.ensures.sound more);
      smaller = let here = ap (λ ps. members_size (entries (seen ps))) c.in-Some.ensures.steps.0 in
          omega (arith, here, c.loop-pair.invariant.smaller);
    }

pub pairs_rows_first-returns-clause-order : goal.pairs_rows_first-returns-clause-order
pairs_rows_first-returns-clause-order t c =
    let start = c.into_iter-pair-iterator.ensures.into_iter_gives.0 in
    let none : length c.loop-pair.pair-iterator.rest.items ≡ 0 =
    omega (arith, c.in-None.ensures.steps.0, c.loop-pair.pair-iterator.rest.ok.0) in
    let no_section : length c.loop-section.section-iterator.rest.items ≡ 0 =
    omega (arith, c.in-None-section.ensures.steps.0, c.loop-section.section-iterator.rest.ok.0) in
    let rows = rows_moved c.loop-pair.rows.items c.loop-pair.pair-iterator.rest.items _ none
    c.loop-pair.invariant.rows in
    let sections = sections_moved c.loop-pair.sections.items c.loop-pair.pair-iterator.rest.items _ none
    c.loop-pair.invariant.sections in
    let whole : c.loop-section.rows.items ≡ c.loop-pair.rows.items ++ c.loop-pair.sections.items =
    sym (append-nil c.loop-section.rows.items)
    ∙ ap (λ ps. c.loop-section.rows.items ++ ps) (sym (nothing_left c.loop-section.section-iterator.rest.items no_section))
    ∙ c.loop-section.invariant
    ∙ ap (λ ps. c.loop-pair.rows.items ++ ps) c.into_iter-section-iterator.ensures.into_iter_gives.0 in
    ap (λ ps. entries (seen ps)) whole ∙ entries-followed c.loop-pair.rows.items c.loop-pair.sections.items
    ∙ ap (λ ms. followed_by ms (entries (seen c.loop-pair.sections.items))) rows
    ∙ ap (λ ms. followed_by (rows_of (entries (seen c.into_iter-pair-iterator.result.rest.items))) ms) sections
    ∙ ap (λ ps. members_rows_first (entries (seen ps))) start

pub table_rows_first-of-requires : goal.table_rows_first-of-requires
table_rows_first-of-requires t c =
    let before : IsTrue (are_distinct (member_keys (entries (seen c.into_entries.result.items)))) =
    rw (member_keys-seen c.into_entries.result.items) c.into_entries.ensures.distinct in
    let after = distinct-rows_first (entries (seen c.into_entries.result.items)) before in
    subst (λ ks. IsTrue (are_distinct ks))
    (ap member_keys (sym c.in_ok-pairs.ensures.order) ∙ member_keys-seen c.in_ok-pairs.pairs.items) after

pub table_rows_first-returns-clause-sound : goal.table_rows_first-returns-clause-sound
table_rows_first-returns-clause-sound t c =
    let keys : IsTrue (are_distinct (member_keys (entries (seen c.into_entries.result.items)))) =
    rw (member_keys-seen c.into_entries.result.items) c.into_entries.ensures.distinct in
    and_from _ _ (subst (λ ps. IsTrue (are_distinct (member_keys (entries ps)))) c.into_entries.ensures.pairs keys)
    (subst (λ ps. IsTrue (hold_sound (entries ps))) c.into_entries.ensures.pairs c.in_ok-pairs.ensures.sound)
