-- What a section does to a table, to what stands at a key and to an item, by the keys of its header that are left: what
-- is entered or is met first, what its rows bring, and what its header marks. What it does to one of these it does to
-- what holds that one. It goes on from an item as from what stood at its key: where that is the item, where the item is
-- new, and where it has one table more.
use Rattle.std.specs.Box as boxes
use Rattle.std.proofs.Common.{◌≡◌, ◌≤◌, ◌<◌, ℕ, suc, ◌+◌, Bool, true, false, List, [], ◌∷◌, length, map, Some, refl, ap}
use Rattle.std.proofs.Common.{sym, ◌∙◌, arith, inr, Vec, Box, Global, Result, Err, rules, slice_get, bytes_eq}
use Rattle.std.proofs.Common.{option_map, ◌||◌}
use Rattle.std.proofs.lemmas.Result.{IfOk-weaker}
use Rattle.std.proofs.lemmas.List.{length-map, map-append}
use Rattle.basic_toml_value.specs.Nesting.{nesting_limit}
use Rattle.basic_toml_value.specs.Growth.{FindsOrAdds, with_value, values_of}
use Rattle.basic_toml_value.specs.declared.pairs.growth.Place.{Place}
use Rattle.basic_toml_grammar.specs.Sections.{KeyTexts, Rows}
use Rattle.basic_toml_grammar.specs.Stops.{at_header}
use Rattle.basic_toml_grammar.specs.Trie.{Trie, walk, steps_to, nothing}
use Rattle.basic_toml_plain.specs.Tries.{leaf, by_keys}
use Rattle.basic_toml_read.specs.declared.section.Key as code
use Rattle.basic_toml_read.specs.KeyText.{key_text_bytes}
use Rattle.basic_toml_read.specs.SectionView.{header_texts}
use Rattle.basic_toml_grow.specs.declared.clash.Clash.{Clash}
use Rattle.basic_toml_grow.specs.declared.item.Item.{Item}
use Rattle.basic_toml_grow.specs.declared.item.Item as items
use Rattle.basic_toml_grow.specs.declared.item.Child.{Child, out-Child}
use Rattle.basic_toml_grow.specs.declared.item.Table.{Table, out-Table}
use Rattle.basic_toml_grow.specs.declared.clash.Clash.TheVariants.{Deep, Header}
use Rattle.basic_toml_grow.specs.Item.{child_trie, item_trie, table_trie, trie_before, is_section}
use Rattle.basic_toml_grow.specs.Simple.{with_entries}
use Rattle.basic_toml_grow.specs.Headers.{IsNew, is_last, HasOneMore, steps_by, entered_at}
use Rattle.basic_toml_grow.specs.Origins.{child_origins, item_origins, origins_before, rows_origins, table_within}
use Rattle.basic_toml_grow.specs.Origins.{no_origins, along}
use Rattle.basic_toml_grow.specs.Ways.{way, way_by, GrowsAlong, IsMarked, MarksWay}
use Rattle.basic_toml_grow.specs.Takes.{TakesHeader, TakesHeaderAtKey, TakesHeaderInItem}
use Rattle.basic_toml_grow.proofs.HeadersInATrie.{array_of, Course, course, course_by, course_barred, course_latest}
use Rattle.basic_toml_grow.proofs.HeadersInATrie.{deep_met, entered_on, in_latest, in_table, course_at, course_fresh}
use Rattle.basic_toml_grow.proofs.HeadersInATrie.{course_next, no_last, course_of, course_through, made}
use Rattle.basic_toml_grow.proofs.ItemTries.{child_item_trie, table_entries_trie}
use Rattle.basic_toml_grow.proofs.TablesOpened.{table_item_trie, tables_trie}
use Rattle.basic_toml_grow.proofs.HeadersEntered.{holding, holding_trie, other_is_leaf}
use Rattle.basic_toml_grow.proofs.KeysInATrie.{tries_of, at_entered, with_mapped}
use Rattle.basic_toml_grow.proofs.LatestInATrie.{mapped_twice}
use Rattle.basic_toml_grow.proofs.ObstaclesPassOn.{behind_low}
use Rattle.basic_toml_grow.proofs.Origins.OriginsSeen.{child_seen, table_item_seen, table_origins, fresh_within}
use Rattle.basic_toml_grow.proofs.Origins.OriginsSeen.{grows_at, made_seen, section_seen, stands_now, or_none}
use Rattle.basic_toml_grow.proofs.Origins.HeadersPlaceOrigins.{entry_keeps, holding_origins, along_none, latest_grows}
use Rattle.basic_toml_grow.proofs.Origins.HeadersPlaceOrigins.{latest_marks, table_marked, array_below, element_grows}
use Rattle.basic_toml_grow.proofs.Origins.HeadersPlaceOrigins.{none_below, more_keeps}
use Rattle.basic_toml_index.proofs.DistinctKeys.{bytes_eq-same}
use Rattle.std.proofs.lemmas.Bool.{and_parts}
use Rattle.std.proofs.lemmas.Slice.Eq.{bytes_eq-Decides}
use Rattle.basic_toml_grammar.specs.Steps.{Step, key, Path, begins, number}
use Rattle.basic_toml_grow.specs.declared.item.Item.TheViews.{roll-Table}

-- What goes on from an item goes on from what stood at the key of another.
abbrev pub Leads : Bool → Rows → KeyTexts → ℕ → Bool → Item → Item → Type 0
Leads a rows keys l is_new old now =
    (course_at a rows keys l (trie_before is_new (item_trie old)) ≡ course_by a rows keys l (item_trie now))
    × ((at s : ℕ) → GrowsAlong (way_by a keys (item_trie now)) no_origins
    (origins_before is_new (item_origins old at s)) (item_origins now at s))

-- so from itself, which is new or not, and from one with one table more
pub lead : (a : Bool) (rows : Rows) (keys : KeyTexts) (l : ℕ) (is_new : Bool) (i : Item)
    → (is_new ≡ true → IsNew (is_last a keys) i) → (is_new ≡ false → is_last a keys ≡ false)
    → Leads a rows keys l is_new i i
lead a rows keys l false i new not = (
  no_last a rows keys l (item_trie i) (not refl),
  λ at s p aside. rw (along_none (way_by a keys (item_trie i)) p) (sym (or_none _)),
)
lead true rows [] l true i new not =
    let array = new refl in (
      rw (array.is, tables_trie array.array, array.none, array.empty) refl,
      λ at s. rw (array.is, tables_trie array.array, ap (map table_trie) array.none)
          (rw (array_below array.array at s, array.none, fresh_within array.array.value.1 array.empty)
          (element_grows [] no_origins no_origins _ _ (λ s p. sym (none_below s p)))),
    )
lead a rows keys l true i new not =
    let table = new refl in (
      rw (table.is, table_item_trie table.table, table.empty)
          (no_last a rows keys l nothing refl ∙ sym (ap in_table (course_fresh a rows keys l))),
      λ at s. rw (table.is, table_item_seen table.table at s, fresh_within table.table.value table.empty)
          (entry_keeps _ _ no_origins _ (λ s p not. sym (along_none _ (s ∷ p)))),
    )

pub lead_more : (rows : Rows) (l : ℕ) {old now : Item} → HasOneMore old now → Leads true rows [] l false old now
lead_more rows l one = (
  rw (one.was, tables_trie one.before, one.is, tables_trie one.after, one.empty, one.tables, map-append)
      (course_next rows l _ _),
  λ at s. rw (one.was, one.is, tables_trie one.after) (more_keeps one.before one.after at s one.tables one.empty),
)

-- what is no array's last key
pub not_last : (a : Bool) (keys : List code.Key) → 1 ≤ length keys → is_last a (header_texts keys) ≡ false
not_last a [] some = absurd (omega (arith, some))
not_last true (k ∷ keys) some = refl
not_last false (k ∷ keys) some = refl

-- what a header makes is no section
pub no_new_section : (a : Bool) (i : Item) → IsNew a i → is_section i ≡ false
no_new_section true i new = ap is_section new.is ∙ search (rules, items.the_lemmas)
no_new_section false i new = ap is_section new.is ∙ search (rules, items.the_lemmas)

-- a table as the code changes it: a header passes it, and it gets the number of a section
abbrev passed_table : Table → List (List ℕ × Child) → ℕ → Table
passed_table t new n =
    let passed = roll-Table (record (out-Table (with_entries t new)) { passed = true }) in
    roll-Table (record (out-Table passed) { section = n })

-- A table is passed by a key: the key is there or is new, at this place, and another child stands at it then.
pub from_key : {gives : Child → Type 0} {a : Bool} {rows : Rows} {k : List ℕ} {level n : ℕ}
    {new : List (List ℕ × Child)} {p : Place} {t : Table} {there now : Child} {r : Result (Unit {0}) Clash}
    (own : code.Key) (rest : List code.Key) → k ≡ key_text_bytes own.text → level ≤ nesting_limit
    → FindsOrAdds gives k (out-Table t).entries new p
    → slice_get (values_of (out-Table (passed_table t new n)).entries) p.position ≡ Some there
    → TakesHeaderAtKey a rows (header_texts rest) level n p.is_new there now r
    → TakesHeader a rows (header_texts (own ∷ rest)) level n t
    (with_entries (passed_table t new n) (with_value (out-Table (passed_table t new n)).entries p.position now)) r
from_key {gives} {a} {rows} {k} {level} {n} {new} {p} {t} {there} {now} {r} own rest text within entered stands from =
    rw (← text) (record {
      entered = rw (ap (λ (c : Course). c.entered) met, table_entries_trie after, is)
          (rw (with_mapped child_trie new p.position now) (entered_on _ (child_trie now) rows with_now r
          (ap (λ (c : Course). level + c.steps) met) from.entered));
      named = rw (ap (λ (c : Course). c.met) met) from.named;
      origins = rw (ap (λ (c : Course). c.way) met) (IfOk-weaker r _ _ (λ x grows. λ q not.
          grows_at t after there now k new p entered stood (ap (λ o. o.entries) is)
          (along c.way (rows_origins n rows)) q (λ y same. grows y (rw (same, bytes_eq-same) at not))) from.origins);
      marks = rw (ap (λ (c : Course). c.way) met) (IfOk-weaker r _ _ (λ x marks. record {
        made = made_seen after ∙ ap (λ o. o.passed || o.named) is;
        section = section_seen after ∙ ap (λ o. o.section) is;
        below = below marks;
      }) from.marks);
    })
  where
    c : Course
    c = course_at a rows (header_texts rest) (level + 1) (trie_before p.is_new (child_trie there))

    after : Table
    after =
        with_entries (passed_table t new n) (with_value (out-Table (passed_table t new n)).entries p.position now)

    is : out-Table after ≡ record (out-Table t) { passed = true; section = n; entries = with_value new p.position now }
    is = search (rules, items.the_lemmas)

    stood : slice_get (values_of new) p.position ≡ Some there
    stood = search (rules, items.the_lemmas, stands)

    with_now : Trie → Trie
    with_now v = made true (out-Table t).named (out-Table t).dotted
        (by_keys (with_value (tries_of child_trie new) p.position v))

    met : course a rows (k ∷ header_texts rest) level (table_trie t)
        ≡ course_of (option_map with_now c.entered) c.steps c.met (key k ∷ c.way)
    met =
        let o = out-Table t in
        let at = at_entered child_trie k o.entries new p entered there stood in
        rw (table_entries_trie t, course_through a rows k (header_texts rest) level o.passed o.named o.dotted _)
        (rw (at.1 (λ t. entered_at a rows (header_texts rest) t), at.0, mapped_twice, behind_low level _ within) refl)

    below : MarksWay n c.way (child_origins now) → (s : Step) (q : Path) → begins (s ∷ q) (key k ∷ c.way) ≡ true
        → IsMarked n (table_origins after (s ∷ q))
    below marks (number m) q on = absurd (cc)
    below marks (key l) q on =
        let both = and_parts (bytes_eq l k) (begins q c.way) on in
        rw ((bytes_eq-Decides l k).0 both.0)
        (rw (stands_now t after there now k new p entered stood (ap (λ o. o.entries) is) q) (marks q both.1))

-- The item is a table, or an array of tables, whose latest is gone on from.
module _ {a : Bool} {rows : Rows} {keys : KeyTexts} {level n : ℕ} {r : Result (Unit {0}) Clash} where
  pub from_table : {now : Table} (old : Box Table Global) → TakesHeader a rows keys (level + 1) n old.value now r
      → TakesHeaderInItem a rows keys level n (items.Table old) (items.Table (boxes.with_value old now)) r
  from_table {now} old from =
      let after = boxes.with_value old now in
      let met : course_by a rows keys (level + 1) (item_trie (items.Table old))
      ≡ in_table (course a rows keys (level + 1) (table_trie old.value)) =
      rw (table_item_trie old, table_entries_trie old.value) refl in
      let level_is : level + steps_by a keys (item_trie (items.Table old))
      ≡ (level + 1) + steps_to a keys (table_trie old.value) =
      ap (λ (c : Course). level + c.steps) met ∙ omega arith in
      let way_is = ap (λ (c : Course). c.way) met in record {
        entered = rw (ap (λ (c : Course). c.entered) met, table_item_trie after, level_is) from.entered;
        named = rw (ap (λ (c : Course). c.met) met) from.named;
        origins = rw way_is (IfOk-weaker r _ _
            (λ x grows. λ at s. rw (table_item_seen old at s, table_item_seen after at s)
            (entry_keeps (way a keys (table_trie old.value)) _ (table_origins now) _
            (λ s p not. grows (s ∷ p) not))) from.origins);
        marks = rw way_is (IfOk-weaker r _ _ (λ x marks. λ at s. rw (table_item_seen after at s)
            (table_marked n _ (table_within now) at s marks)) from.marks);
      }

  pub from_latest : {now : Table} (old : Box (Vec Table Global × Table) Global)
      → TakesHeader a rows keys (level + 2) n old.value.1 now r → TakesHeaderInItem a rows keys level n
      (items.Tables old) (items.Tables (boxes.with_value old (old.value.0, now))) r
  from_latest {now} old from =
      let after = boxes.with_value old (old.value.0, now) in
      let before = map table_trie old.value.0.items in
      let t = table_trie old.value.1 in
      let met : course_by a rows keys (level + 1) (item_trie (items.Tables old))
      ≡ in_latest before (course a rows keys (level + 2) t) =
      ap (course_by a rows keys (level + 1)) (tables_trie old)
      ∙ course_latest a rows keys (level + 1) (level + 2) before t (omega arith) in
      let way_is = ap (λ (c : Course). c.way) met in record {
        entered = rw (ap (λ (c : Course). c.entered) met, tables_trie after) (entered_on (walk a rows keys t)
            (table_trie now) rows (λ u. array_of before u) r (ap (λ (c : Course). level + c.steps) met ∙ omega arith)
            from.entered);
        named = rw (ap (λ (c : Course). c.met) met) from.named;
        origins = rw way_is (IfOk-weaker r _ _
            (λ x grows. latest_grows old after _ (rows_origins n rows) refl grows) from.origins);
        marks = rw way_is (IfOk-weaker r _ _ (λ x marks. latest_marks old after n _ refl marks) from.marks);
      }

-- A value stands there, which bars a header.
module _ {a : Bool} {rows : Rows} {level n : ℕ} {i : Item} (keys : List code.Key) (no_section : is_section i ≡ false)
    (no_table : (t : Box Table Global) → i ≡ items.Table t → ⊥)
    (no_tables : (b : Box (Vec Table Global × Table) Global) → i ≡ items.Tables b → ⊥) where
  pub from_value : level < nesting_limit
      → TakesHeaderInItem a rows (header_texts keys) level n i i (Err (Header (length keys + 1)))
  from_value low =
      let seen = other_is_leaf i no_section no_table no_tables in
      let barred = course_barred a rows (header_texts keys) (level + 1) seen.0 (omega (arith, low)) in
      let left : suc (length (header_texts keys)) ≡ length keys + 1 = simp length-map (omega arith) in record {
        entered = inr (rw seen.1 barred.0);
        named = (at_header (length keys + 1), (refl, rw (seen.1, ← left) barred.1));
        origins = tt;
        marks = tt;
      }

  pub from_deep_value : nesting_limit ≤ level → TakesHeaderInItem a rows (header_texts keys) level n i i (Err Deep)
  from_deep_value high =
      let seen = other_is_leaf i no_section no_table no_tables in record {
        entered = omega (arith, high);
        named = rw seen.1 (deep_met a rows (header_texts keys) (level + 1) (leaf seen.0) (omega (arith, high)));
        origins = tt;
        marks = tt;
      }

-- What stands at a key is gone on from by the item that it leads on to.
pub from_item : {a : Bool} {rows : Rows} {keys : KeyTexts} {level n : ℕ} {is_new : Bool} {old there : Child}
    (mid : Child) {item now : Item} {r : Result (Unit {0}) Clash} → child_trie mid ≡ child_trie old
    → child_origins mid ≡ child_origins old → out-Child there ≡ record (out-Child mid) { item = item }
    → Leads a rows keys (level + 1) is_new (out-Child mid).item item
    → TakesHeaderInItem a rows keys level n (out-Child there).item now r
    → TakesHeaderAtKey a rows keys level n is_new old (holding there now) r
from_item {a} {rows} {keys} {level} {n} {is_new} {old} {there} mid {item} {now} {r} same came out on from =
    let takes = rw (ap (λ o. o.item) out) at from in
    let at = (out-Child mid).start in
    let s = (out-Child mid).section in
    let now_is = holding_origins there now ∙ ap (λ o. item_origins now o.start o.section) out in
    let way_is = ap (λ (c : Course). c.way) on.0 in record {
      entered = rw (holding_trie there now, ← same, child_item_trie mid)
          (rw (ap (λ (c : Course). c.entered) on.0, ap (λ (c : Course). c.steps) on.0) takes.entered);
      named = rw (← same, child_item_trie mid, ap (λ (c : Course). c.met) on.0) takes.named;
      origins = rw (now_is, ← same, child_item_trie mid, way_is, ← came, child_seen mid)
          (IfOk-weaker r _ _ (λ x grows. λ p not. grows at s p not
          ∙ rw (on.1 at s p not, along_none (way_by a keys (item_trie item)) p, or_none) refl) takes.origins);
      marks = rw (now_is, ← same, child_item_trie mid, way_is) (IfOk-weaker r _ _ (λ x marks. marks at s) takes.marks);
    }
