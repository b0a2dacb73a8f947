-- The rows of a section, as they were read, and the table that they stand for; and the tables of an array that stand as
-- they were read, and those with the entries that they stand for. So kept they are entered in the table of a header,
-- which is new, or is added to an array of tables of which each keeps its rows so.
use Rattle.std.proofs.Common.{◌≡◌, ℕ, true, false, List, [], ◌∷◌, map, refl, ap, sym, ◌∙◌, ◌≤◌, rules, Some, None, Ok}
use Rattle.std.proofs.Common.{arith, Vec, Box, Global, ◌+◌, ◌++◌, length, option_map}
use Rattle.std.proofs.lemmas.Bool.{and_parts}
use Rattle.std.proofs.lemmas.List.Folds.{list_all-append}
use Rattle.std.specs.List.{list_all}
use Rattle.std.proofs.lemmas.List.{length-map}
use Rattle.basic_toml_value.specs.Nesting.{nesting_limit}
use Rattle.basic_toml_grammar.specs.Standing as standings
use Rattle.basic_toml_grammar.specs.Trie.{trie, Trie, nothing, put_element, put_table}
use Rattle.basic_toml_read.specs.declared.section.Row.{Row, out-Row}
use Rattle.basic_toml_read.specs.SectionView.{raw_of, rows_seen}
use Rattle.basic_toml_plain.specs.Plain.{are_few_simple, plain_data, is_plain, are_all_plain}
use Rattle.basic_toml_plain.specs.Tries.{by_keys, leaf, row_trie, rows_trie}
use Rattle.basic_toml_plain.specs.PlainTables.{SectionTable, SectionTables, have_few_simple}
use Rattle.basic_toml_plain.proofs.SimpleKeys.{few_are_plain, few_are_simple, first_plain, others_plain}
use Rattle.basic_toml_grow.specs.Takes.{TakesRows}
use Rattle.basic_toml_grow.specs.Simple.{child_of, entries_of, section_table, with_entries, table_of}
use Rattle.basic_toml_grow.specs.declared.item.Item as items
use Rattle.basic_toml_grow.specs.declared.item.Table.{Table, out-Table}
use Rattle.basic_toml_grow.specs.Item.{item_trie, child_trie, table_trie}
use Rattle.basic_toml_grow.specs.Origins.{child_origins, item_origins, of_table, rows_origins, table_within, at_keys}
use Rattle.basic_toml_grow.specs.Origins.{value_origins, section_origins as origins_of_section, Origins, array_origin}
use Rattle.basic_toml_grow.specs.Origins.{at_numbers, entry, no_origins}
use Rattle.basic_toml_grow.proofs.ItemTries.{table_entries_trie}
use Rattle.basic_toml_grow.proofs.KeysInATrie.{tries_of}
use Rattle.basic_toml_grow.proofs.SimpleRows.{child_made, rows_in}
use Rattle.basic_toml_grow.proofs.TablesOpened.{section_item_trie, sections_trie, tables_trie}
use Rattle.basic_toml_grow.proofs.Origins.OriginsSeen.{no_keys_below, section_item_seen, sections_seen}
use Rattle.basic_toml_grow.proofs.Origins.RowsPlaceOrigins.{within}
use Rattle.basic_toml_grow.proofs.Origins.HeadersPlaceOrigins.{array_below, element_grows, entry_keeps, numbers_marked}
use Rattle.basic_toml_grammar.specs.Steps.{Step, number, Path}
use Rattle.basic_toml_grammar.specs.Sections.{Rows}
use Rattle.basic_toml_plain.proofs.PlainValues.{few_lower}
use Rattle.basic_toml_grow.specs.Headers.{IsIn}
use Rattle.basic_toml_grow.specs.Ways.{GrowsAlong, MarksWay}
use Rattle.basic_toml_grow.proofs.HeadersInATrie.{array_of, entered_on, fresh, rows_entered}

-- what a row stands for, as an entry
pub row_child_trie : (s : ℕ) (r : Row) → is_plain (out-Row r).value 0 ≡ true
    → child_trie (child_of s r) ≡ leaf (plain_data (out-Row r).value)
row_child_trie s r plain = (child_made s r 0 plain).finished.value

pub row_child_origins : (s : ℕ) (r : Row) → is_plain (out-Row r).value 0 ≡ true
    → child_origins (child_of s r) ≡ value_origins s (out-Row r).start (raw_of (out-Row r).value)
row_child_origins s r plain = (child_made s r 0 plain).origins

rows_tries : (s : ℕ) (rows : List Row) → are_all_plain 0 rows ≡ true
    → map row_trie rows ≡ tries_of child_trie (entries_of s rows)
unfolding tries_of
rows_tries s [] plain = refl
rows_tries s (r ∷ rs) plain =
    rw (row_child_trie s r (first_plain 0 r rs plain), rows_tries s rs (others_plain 0 r rs plain)) refl

-- the table without rows
abbrev pub bare : ℕ → Table
bare s = section_table s []

-- the parts of the table that rows stand for; it takes the rows, and where what stands in it then comes from
module _ (s : ℕ) (rows : List Row) where
  pub entries_are : (out-Table (section_table s rows)).entries ≡ entries_of s rows
  entries_are = search (rules, items.the_lemmas)

  pub section_table_trie : table_trie (section_table s rows)
      ≡ trie (Some (standings.table false true false)) None (by_keys (tries_of child_trie (entries_of s rows)))
  section_table_trie = table_entries_trie (section_table s rows) ∙ search (rules, items.the_lemmas)

  pub section_trie : are_few_simple 0 rows ≡ true → item_trie (items.Section rows) ≡ table_trie (section_table s rows)
  section_trie are =
      rw (section_item_trie rows, rows_tries s rows (few_are_plain 0 rows are), section_table_trie) refl

  pub section_taken : (level : ℕ) → level ≤ nesting_limit → are_few_simple level rows ≡ true
      → TakesRows (rows_seen [] rows) s level (bare s) (section_table s rows) (Ok tt)
  section_taken level low are =
      let none : (out-Table (bare s)).entries ≡ [] = search (rules, items.the_lemmas) in
      let same : with_entries (bare s) (entries_of s rows) ≡ section_table s rows = search (rules, items.the_lemmas) in
      rw same at (rows_in s level low (bare s) none rows (few_are_simple level rows are))

  pub section_within : are_few_simple 0 rows ≡ true
      → table_within (section_table s rows) ≡ within true s (rows_origins s (rows_seen [] rows))
  section_within are =
      let none : table_within (bare s) ≡ within true s (at_keys []) = search (rules, items.the_lemmas) in
      (section_taken 0 (omega arith) are).origins ∙ rw (none, no_keys_below) refl

  pub section_origins : are_few_simple 0 rows ≡ true → (at : ℕ)
      → item_origins (items.Section rows) at s ≡ of_table at s (table_within (section_table s rows))
  section_origins are at = section_item_seen rows at s ∙ ap (of_table at s) (sym (section_within are))

-- the tables that are made of an array of sections, whose rows are few and simple
pub record AreMade (b : Box SectionTables Global) (made : Box (Vec Table Global × Table) Global) : Type 0 where
  pub earlier : made.value.0.items ≡ map table_of b.value.0
  pub latest : made.value.1 ≡ table_of b.value.1
  pub simple : have_few_simple b.value ≡ true

-- what each such table tells as its section does, all of them tell
module _ {A : Type 0} (f : Table → A) (g : SectionTable → A)
    (same : (t : SectionTable) → are_few_simple 0 t.1 ≡ true → f (table_of t) ≡ g t) where
  all_tell : (ts : List SectionTable) → list_all (λ t. are_few_simple 0 t.1) ts ≡ true
      → map f (map table_of ts) ≡ map g ts
  all_tell [] are = refl
  all_tell (t ∷ ts) are = let parts = and_parts _ _ are in rw (same t parts.0, all_tell ts parts.1) refl

  made_tell : (b : Box SectionTables Global) (made : Box (Vec Table Global × Table) Global) → AreMade b made
      → (map f made.value.0.items ≡ map g b.value.0) × (f made.value.1 ≡ g b.value.1)
  made_tell b made are =
      let parts = and_parts _ _ (rw list_all-append at are.simple) in
      rw (are.earlier, are.latest) (all_tell b.value.0 parts.0, same b.value.1 (and_parts _ _ parts.1).0)

pub unfolded_trie : {b : Box SectionTables Global} {made : Box (Vec Table Global × Table) Global} → AreMade b made
    → item_trie (items.Tables made) ≡ item_trie (items.Sections b)
unfolded_trie {b} {made} are =
    let all = made_tell table_trie (λ t. rows_trie t.1)
    (λ t few. sym (section_trie t.0 t.1 few) ∙ section_item_trie t.1) b made are in
    rw (tables_trie made, sections_trie b, all.0, all.1) refl

pub unfolded_origins : {b : Box SectionTables Global} {made : Box (Vec Table Global × Table) Global} → AreMade b made
    → (at s : ℕ) → item_origins (items.Tables made) at s ≡ item_origins (items.Sections b) at s
unfolded_origins {b} {made} are at s =
    let number = made_tell (λ t. (table_within t).section) (λ t. t.0)
    (λ t few. ap (λ w. w.section) (section_within t.0 t.1 few)) b made are in
    let all = made_tell (λ t. of_table at s (table_within t)) (origins_of_section at)
    (λ t few. ap (of_table at s) (section_within t.0 t.1 few)) b made are in
    rw (array_below made at s, sections_seen b at s, all.0, all.1, number.1) refl

module _ (s : ℕ) (rows : List Row) where
  abbrev pub seen : Rows
  seen = rows_seen [] rows

  -- the section is entered at its header's last key
  pub section_entered : (level : ℕ) → level ≤ nesting_limit → are_few_simple level rows ≡ true
      → IsIn (put_table seen nothing) seen level (item_trie (items.Section rows))
  unfolding tries_of
  section_entered level low are =
      let taken = rw (section_table_trie s []) at (section_taken s rows level low are).entered in
      rw (section_trie s rows (few_lower rows level are)) (rows_entered seen level _ _ (Ok tt) low taken)

  -- what its rows bring, and what headers made
  pub section_grows : (at : ℕ)
      → GrowsAlong [] (rows_origins s seen) no_origins (item_origins (items.Section rows) at s)
  section_grows at = rw (section_item_seen rows at s) (entry_keeps [] _ (rows_origins s seen) _ (λ r p not. refl))

  pub section_marks : (at : ℕ) → MarksWay s [] (origins_of_section at (s, rows))
  section_marks at [] on = (refl, refl)
  section_marks at (r ∷ p) on = absurd (cc)

abbrev pub tries : List SectionTable → List Trie
tries ts = map (λ t. rows_trie t.1) ts

-- it comes after others
module _ (s level : ℕ) (rows : List Row) (b : Box SectionTables Global) (before : List SectionTable)
    (is : b.value ≡ (before, (s, rows))) where
  pub added_in : level + 2 ≤ nesting_limit → are_few_simple (level + 2) rows ≡ true → (t : Trie)
      → put_element (seen s rows) t ≡ option_map (λ u. array_of (tries before) u) (put_table (seen s rows) fresh)
      → IsIn (put_element (seen s rows) t) (seen s rows) (level + 2) (item_trie (items.Sections b))
  added_in low few t put =
      rw (put, sections_trie b, is, ← section_item_trie rows)
      (entered_on (put_table (seen s rows) nothing) _ (seen s rows) (λ u. array_of (tries before) u) (Ok tt) refl
      (section_entered s rows (level + 2) low few))

  -- what its rows bring, and what headers made
  module _ (at z : ℕ) where
    abbrev pub others : List Origins
    others = map (origins_of_section at) before

    now_is : item_origins (items.Sections b) at z
        ≡ entry (array_origin at s) (at_numbers (others ++ origins_of_section at (s, rows) ∷ []))
    now_is = rw (sections_seen b at z, is) refl

    pub added_grows : (came : Origins) → ((r : Step) (p : Path) → came (r ∷ p) ≡ at_numbers others (r ∷ p))
        → GrowsAlong (number (length before) ∷ []) (rows_origins s (seen s rows)) came
        (item_origins (items.Sections b) at z)
    added_grows came same = rw (now_is, ← length-map before (origins_of_section at))
        (element_grows others (rows_origins s (seen s rows)) came _ _ same)

    pub added_marks : MarksWay s (number (length before) ∷ []) (item_origins (items.Sections b) at z)
    added_marks = rw (now_is, ← length-map before (origins_of_section at))
        (numbers_marked s [] others (origins_of_section at (s, rows)) (array_origin at s) (refl, refl)
        (section_marks s rows at))
