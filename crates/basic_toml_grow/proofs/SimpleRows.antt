-- Simple rows, put into a table one after another: they become its entries.
use Rattle.std.proofs.Common.{◌≡◌, ◌≤◌, ℕ, true, false, List, [], ◌∷◌, ◌++◌, length, map, Some, Ok, arith, take, drop}
use Rattle.std.proofs.Common.{refl, ◌∙◌, rules, append_assoc, slice_get, add-zero, Result}
use Rattle.std.proofs.lemmas.Bool.{and_parts}
use Rattle.std.proofs.lemmas.List.{append-nil, length-map, take_at, map-append, take-append-drop, take-map}
use Rattle.std.proofs.lemmas.List.Folds.{list_all-append}
use Rattle.std.proofs.lemmas.Simd.{map-map}
use Rattle.std.proofs.lemmas.Slice.Eq.{bytes_eq-Decides}
use Rattle.basic_toml_index.specs.Keys.{is_among, are_distinct}
use Rattle.basic_toml_index.proofs.DistinctKeys.{is_among-insert, slice_get-last}
use Rattle.basic_toml_value.specs.declared.pairs.Pair.{Pair}
use Rattle.basic_toml_value.specs.Entries.{seen, texts_of}
use Rattle.basic_toml_value.specs.Growth.{FindsOrAdds, new_place, values_of}
use Rattle.basic_toml_value.specs.Nesting.{nesting_limit}
use Rattle.basic_toml_value.specs.Pairs.{keys_of, has_key}
use Rattle.basic_toml_value.proofs.KeysSeen.{keys_of-seen}
use Rattle.basic_toml_grammar.specs.Mentions.{finished}
use Rattle.basic_toml_read.specs.SectionView.{lined_of, raw_of, rows_seen}
use Rattle.basic_toml_read.specs.declared.section.Rows as tables
use Rattle.basic_toml_read.specs.declared.section.Raw as raws
use Rattle.basic_toml_read.specs.declared.section.Raw.{Raw, out-Raw, roll-Raw, roll-out-Raw}
use Rattle.basic_toml_read.specs.declared.section.Raw.TheOpen.{Raw-F}
use Rattle.basic_toml_read.specs.declared.section.Element.{Element}
use Rattle.basic_toml_read.specs.declared.section.Row.{Row, out-Row}
use Rattle.basic_toml_read.proofs.NextRow.{lined_is, lone_row}
use Rattle.basic_toml_read.proofs.RowsHaveKeys.{every_row, rows_are_keyed}
use Rattle.basic_toml_plain.specs.Plain.{key_of, is_plain, are_simple, are_all_plain}
use Rattle.basic_toml_plain.specs.Tries.{leaf}
use Rattle.basic_toml_plain.proofs.PlainValues.{plain_value, value_lower}
use Rattle.basic_toml_plain.proofs.SimpleKeys.{first_plain, keys_differ, others_plain, simple_are_plain}
use Rattle.basic_toml_grow.specs.declared.clash.Clash.{Clash}
use Rattle.basic_toml_grow.specs.declared.item.Item.{the_lemmas}
use Rattle.basic_toml_grow.specs.declared.item.Item.TheViews.{out-roll-Table}
use Rattle.basic_toml_grow.specs.declared.item.Child.{Child}
use Rattle.basic_toml_grow.specs.declared.item.Table.{Table, out-Table}
use Rattle.basic_toml_grow.specs.Item.{item_trie, child_trie}
use Rattle.basic_toml_grow.specs.Origins.{item_origins, child_origins, value_origins, table_origin, dotted_of}
use Rattle.basic_toml_grow.specs.Rows.{one_row}
use Rattle.basic_toml_grow.specs.Simple.{kept, item_of, child_of, entry_of, entries_of, with_entries}
use Rattle.basic_toml_grow.specs.Takes.{MakesChild, TakesRows}
use Rattle.basic_toml_grow.proofs.RowValues.{none_taken, row_put, row_taken}
use Rattle.basic_toml_grow.proofs.RowsEntered.{last_taken}

-- a plain value, as the item that it is kept as
kept_is : (x : Raw-F Raw Element Row tables.Rows) (l : ℕ) → is_plain (roll-Raw x) l ≡ true
    → (item_trie (kept x) ≡ leaf (finished (raw_of (roll-Raw x))))
    × ((at s : ℕ) → item_origins (kept x) at s ≡ value_origins s at (raw_of (roll-Raw x)))
kept_is (Raw-F.Dotted rs) l plain =
    let not_plain : is_plain (roll-Raw (Raw-F.Dotted rs)) l ≡ false = search (rules, raws.the_lemmas) in absurd (cc)
kept_is _ l plain = (search (rules, the_lemmas, raws.the_lemmas), λ at s. search (rules, the_lemmas, raws.the_lemmas))

-- and as a child
pub plain_made : {start s level : ℕ} {c : Child} (v : Raw) → is_plain v level ≡ true
    → child_trie c ≡ item_trie (item_of v) → child_origins c ≡ item_origins (item_of v) start s
    → dotted_of c ≡ table_origin false start s → MakesChild (raw_of v) start s level (Ok c)
plain_made {start} {s} {level} v plain trie origins dotted =
    let is = rw (roll-out-Raw v) at (kept_is (out-Raw v) level (rw (roll-out-Raw v) plain)) in
    let at = plain_value v level plain in
    record {
      finished = record { value = trie ∙ is.0; apart = at.apart; fits = at.fits };
      named = tt;
      origins = origins ∙ is.1 start s;
      dotted = dotted;
    }

pub child_made : (s : ℕ) (r : Row) (level : ℕ) → is_plain (out-Row r).value level ≡ true
    → MakesChild (raw_of (out-Row r).value) (out-Row r).start s level (Ok (child_of s r))
child_made s r level plain =
    plain_made (out-Row r).value plain (search (rules, the_lemmas)) (search (rules, the_lemmas))
    (search (rules, the_lemmas))

-- plain rows are so at the lowest level too
pub all_lower : (l : ℕ) (rows : List Row) → are_all_plain l rows ≡ true → are_all_plain 0 rows ≡ true
all_lower l [] plain = refl
all_lower l (r ∷ rs) plain =
    grind (arith, and_parts, value_lower (out-Row r).value l, all_lower l rs)

pub entry_texts : (s : ℕ) (rows : List Row) (entries : List (Pair Child)) → seen entries ≡ entries_of s rows
    → texts_of entries ≡ map key_of rows
entry_texts s rows entries is = rw (← keys_of-seen entries, is, map-map) refl

-- a value that is put last
last_value : (ps : List (List ℕ × Child)) (k : List ℕ) (c : Child)
    → slice_get (values_of (ps ++ (k, c) ∷ [])) (length ps) ≡ Some c
last_value [] k c = refl
last_value (p ∷ ps) k c = last_value ps k c

-- a key that is put last
keys_more : (ps : List (List ℕ × Child)) (k : List ℕ) (c : Child)
    → keys_of (ps ++ (k, c) ∷ []) ≡ keys_of ps ++ k ∷ []
keys_more ps k c = map-append (λ (p : List ℕ × Child). p.0) ps ((k, c) ∷ [])

adds : (ps : List (List ℕ × Child)) (k : List ℕ) (c : Child) → has_key ps k ≡ false
    → FindsOrAdds (λ d. d ≡ c) k ps (ps ++ (k, c) ∷ []) (new_place (length ps))
adds ps k c absent = record {
  there = c;
  stands = last_value ps k c;
  entered = record {
    at = rw (keys_more ps k c, ← length-map ps (λ (p : List ℕ × Child). p.0)) (slice_get-last (keys_of ps) k);
    first = rw (keys_more ps k c, take_at (keys_of ps) (k ∷ []) (length ps) (length-map ps _)) absent;
    pairs = rw absent refl;
  };
  is_new = rw absent refl;
  made = λ new. refl;
}

-- a table without other entries than its own
pub own_entries : (t : Table) → with_entries t (out-Table t).entries ≡ t
own_entries t = search (rules, the_lemmas)

-- a key is none of those before it, which all differ
key_is_new : (ks : List (List ℕ)) (k : List ℕ) (ls : List (List ℕ)) → are_distinct (ks ++ k ∷ ls) ≡ true
    → is_among ks k ≡ false
key_is_new [] k ls distinct = refl
key_is_new (l ∷ ks) k ls distinct =
    grind (arith, is_among-insert ks ls k l, bytes_eq-Decides k l, bytes_eq-Decides l k, key_is_new ks k ls, distinct)

-- the first of rows, put into a table that has none of their keys: what the others come to, all come to
module _ {s level : ℕ} (low : level ≤ nesting_limit) (more : List Row) {after : Table}
    {result : Result (Unit {0}) Clash} where
  rows_and : (rows : List Row) (t : Table) → are_all_plain level rows ≡ true
      → are_distinct (keys_of (out-Table t).entries ++ map key_of rows) ≡ true
      → TakesRows (rows_seen [] more) s level (with_entries t ((out-Table t).entries ++ entries_of s rows)) after result
      → TakesRows (rows_seen [] (rows ++ more)) s level t after result
  rows_and [] t plain distinct takes = rw (append-nil (out-Table t).entries, own_entries t) at takes
  rows_and (r ∷ rs) t plain distinct takes =
      let own = (out-Table t).entries in
      let entry = entry_of s r ∷ [] in
      let c = child_of s r in
      let key = key_of r in
      let now = with_entries t (own ++ entry) in
      let one : TakesRows (one_row [] r) s level t now (Ok tt) =
      row_put [] (lined_of r).key (omega arith) c
      (rw (lined_is r) (child_made s r _ (rw add-zero (first_plain level r rs plain))))
      (rw (lined_is r) (last_taken t key (own ++ entry) (new_place (length own))
      (adds own key c (key_is_new (keys_of own) key (map key_of rs) distinct)) c (last_value own key c) refl refl)) in
      let all = lone_row r (rs ++ more) in
      rw all (row_taken one (rw all at (rows_are_keyed [] (r ∷ (rs ++ more)))) (every_row r) (rows_and rs now
      (others_plain level r rs plain) (rw (out-roll-Table, keys_more own key c, append_assoc) distinct)
      (rw (out-roll-Table, append_assoc) takes)))

  -- plain rows, of which the first, whose keys differ, are the entries of a table that had none
  pub first_in : {t : Table} (rows : List Row) (count : ℕ) → (out-Table t).entries ≡ []
      → are_all_plain level rows ≡ true → are_distinct (take count (map key_of rows)) ≡ true → more ≡ drop count rows
      → TakesRows (rows_seen [] more) s level (with_entries t (entries_of s (take count rows))) after result
      → TakesRows (rows_seen [] rows) s level t after result
  first_in {t} rows count none plain distinct is_more takes =
      let first = take count rows in
      let parts : first ++ more ≡ rows = rw is_more (take-append-drop count rows) in
      let plain_first = (and_parts _ _ (rw (← parts, list_all-append) at plain)).0 in
      rw parts at (rows_and first t plain_first (rw (none, ← take-map) distinct) (rw none takes))

-- simple rows, put into a table without entries
pub rows_in : (s level : ℕ) → level ≤ nesting_limit → (t : Table) → (out-Table t).entries ≡ [] → (rows : List Row)
    → are_simple level rows ≡ true
    → TakesRows (rows_seen [] rows) s level t (with_entries t (entries_of s rows)) (Ok tt)
rows_in s level low t none rows simple =
    rw (none, append-nil) at (rows_and {s = s} low [] rows t (simple_are_plain level rows simple)
    (rw none (keys_differ level rows simple)) none_taken)
