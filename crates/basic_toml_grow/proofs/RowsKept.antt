-- The rows of a section that stay as they were read: few and simple ones, without a parent.
use Rattle.std.proofs.Common.{◌≡◌, ℕ, ◌+◌, ◌≤◌, Bool, true, false, List, [], ◌∷◌, length, ◌==◌, ap, ap₂, sym, ◌∙◌}
use Rattle.std.proofs.Common.{arith, rules, Vec, Box, Global, Ok, length-append}
use Rattle.std.proofs.lemmas.List.{length-map, map_push}
use Rattle.std.specs.Prelude.{vec_len}
use Rattle.basic_toml_value.specs.Nesting.{nesting_limit}
use Rattle.basic_toml_read.specs.declared.section.Raw as raws
use Rattle.basic_toml_read.specs.declared.section.Row.{Row}
use Rattle.basic_toml_read.specs.declared.section.Rows as tables
use Rattle.basic_toml_read.specs.SectionView.{rows_seen, rows_view}
use Rattle.basic_toml_plain.specs.Plain.{are_few_simple}
use Rattle.basic_toml_grammar.specs.Trie.{count, nothing}
use Rattle.basic_toml_plain.specs.PlainTables.{SectionTables, tables_in, with_table}
use Rattle.basic_toml_plain.proofs.WhatIsLeft.{nothing_left}
use Rattle.basic_toml_grow.specs.declared.item.Item as items
use Rattle.basic_toml_grow.specs.declared.item.Child.{Child, out-Child}
use Rattle.basic_toml_grow.specs.Item.{child_trie, item_trie}
use Rattle.basic_toml_grow.specs.Origins.{at_numbers, child_origins, item_origins, no_origins, section_origins}
use Rattle.basic_toml_grow.specs.Takes.{TakesHeaderAtKey}
use Rattle.basic_toml_grow.proofs.SectionTables.{section_entered, section_grows, section_marks, seen, added_grows}
use Rattle.basic_toml_grow.proofs.SectionTables.{added_in, added_marks, tries}
use Rattle.basic_toml_grow.proofs.HeadersEntered.{holding, holding_trie}
use Rattle.basic_toml_grow.proofs.HeadersInATrie.{enter_latest, fresh, put_next}
use Rattle.basic_toml_grow.proofs.ItemTries.{child_item_trie}
use Rattle.basic_toml_grow.proofs.TablesOpened.{sections_trie}
use Rattle.basic_toml_grow.proofs.Origins.OriginsSeen.{child_seen, section_item_seen, sections_seen}
use Rattle.basic_toml_grow.proofs.Origins.HeadersPlaceOrigins.{holding_origins, none_below}

-- what the code asks of them, for a table of a level
pub record CanStay (rows : tables.Rows) (level : ℕ) : Type 0 where
  pub none : (tables.out-Rows rows).parents.items ≡ []
  pub seen : rows_view rows ≡ rows_seen [] (tables.out-Rows rows).rows.items
  pub few : are_few_simple level (tables.out-Rows rows).rows.items ≡ true

pub can_stay : {slice : List Row} {is_empty are_few : Bool} (rows : tables.Rows) (level : ℕ)
    → is_empty ≡ (vec_len (tables.out-Rows rows).parents == 0) → is_empty ≡ true
    → slice ≡ (tables.out-Rows rows).rows.items → are_few ≡ are_few_simple level slice → are_few ≡ true
    → CanStay rows level
can_stay rows level is empty slice_is few are =
    let parents = (tables.out-Rows rows).parents in
    let none = nothing_left parents.items (grind (arith, is, empty, parents.ok.0)) in
    let seen = ap (λ ks. rows_seen ks (tables.out-Rows rows).rows.items) none in
    record { none = none; seen = seen; few = grind (arith, slice_is, few, are) }

-- rows that are taken out and put back
abbrev pub back : tables.Rows → Vec Row Global → Vec Row Global → tables.Rows
back rows taken kept =
    let out = tables.roll-Rows (record (tables.out-Rows rows) { rows = taken }) in
    tables.roll-Rows (record (tables.out-Rows out) { rows = kept })

pub back_view : (rows : tables.Rows) (taken kept : Vec Row Global) → kept.items ≡ (tables.out-Rows rows).rows.items
    → rows_view (back rows taken kept) ≡ rows_view rows
back_view rows taken kept same =
    ap₂ rows_seen (search (rules, raws.the_lemmas)) (search (rules, raws.the_lemmas) ∙ same)

-- At a key where nothing stands they are those of its table, or of the first table of an array.
module _ {rows : tables.Rows} {n level : ℕ} {child now : Child} {is_new : Bool} (new : is_new ≡ true) where
  pub stay_at_key : {kept : List Row} → CanStay rows (level + 1) → level + 1 ≤ nesting_limit
      → kept ≡ (tables.out-Rows rows).rows.items → child_trie now ≡ item_trie (items.Section kept)
      → child_origins now ≡ item_origins (items.Section kept) 0 n
      → TakesHeaderAtKey false (rows_view rows) [] level n is_new child now (Ok tt)
  stay_at_key stay low same trie origins =
      let own = (tables.out-Rows rows).rows.items in record {
        entered = rw (stay.seen, new, trie, same) (section_entered n own (level + 1) low stay.few);
        named = tt;
        origins = rw (stay.seen, new, origins, same) (section_grows n own 0);
        marks = rw (new, origins, same, section_item_seen own 0 n) (section_marks n own 0);
      }

  pub stay_in_first : CanStay rows (level + 2) → level + 2 ≤ nesting_limit → (array : Box SectionTables Global)
      → array.value ≡ ([], (n, (tables.out-Rows rows).rows.items)) → child_trie now ≡ item_trie (items.Sections array)
      → child_origins now ≡ item_origins (items.Sections array) 0 0
      → TakesHeaderAtKey true (rows_view rows) [] level n is_new child now (Ok tt)
  stay_in_first stay low array is trie origins =
      let own = (tables.out-Rows rows).rows.items in record {
        entered = rw (stay.seen, new, trie) (added_in n level own array [] is low stay.few nothing
            (enter_latest true (seen n own) [] [] fresh));
        named = tt;
        origins = rw (stay.seen, new, origins)
            (added_grows n level own array [] is 0 0 no_origins (λ r p. sym (none_below r p)));
        marks = rw (new, origins) (added_marks n level own array [] is 0 0);
      }

-- In an array of such tables they are those of its next one.
pub stay_in_next : {rows : tables.Rows} {n level : ℕ} {child : Child} {is_new : Bool}
    (old after : Box SectionTables Global) → CanStay rows (level + 2) → level + 2 ≤ nesting_limit → is_new ≡ false
    → (out-Child child).item ≡ items.Sections old
    → after.value ≡ with_table old.value (n, (tables.out-Rows rows).rows.items)
    → TakesHeaderAtKey true (rows_view rows) [] level n is_new child (holding child (items.Sections after)) (Ok tt)
stay_in_next {rows} {n} {level} {child} {is_new} old after stay low here was more =
    let own = (tables.out-Rows rows).rows.items in
    let before = tables_in old.value in
    let at = (out-Child child).start in
    let z = (out-Child child).section in
    let trie = child_item_trie child ∙ ap item_trie was in
    let counted : count (item_trie (items.Sections old)) ≡ length before =
    rw (sections_trie old, length-map, length-append) (omega arith) in
    record {
      entered = rw (stay.seen, here, trie, holding_trie child (items.Sections after))
          (added_in n level own after before more low stay.few (item_trie (items.Sections old))
          (rw (sections_trie old, map_push) (put_next (seen n own) (tries old.value.0) _)));
      named = tt;
      origins = rw (stay.seen, here, trie, counted, holding_origins child (items.Sections after), child_seen child, was)
          (added_grows n level own after before more at z (item_origins (items.Sections old) at z)
          (λ r p. rw (sections_seen old at z)
          (ap (λ os. at_numbers os (r ∷ p)) (sym (map_push (section_origins at) old.value.0 old.value.1)))));
      marks = rw (here, trie, counted, holding_origins child (items.Sections after))
          (added_marks n level own after before more at z);
    }
