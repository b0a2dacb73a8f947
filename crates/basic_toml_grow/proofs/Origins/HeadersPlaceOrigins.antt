-- The way of a header through the tree: what its rows bring comes at the way's end, and headers made what stands on it,
-- of which the section of this one is the latest that leads there. It goes on into the latest element of an array of
-- tables, or into one that is added.
use Rattle.std.proofs.Common.{append-nil, inl, inr, ◌≡◌, ℕ, false, List, [], ◌∷◌, refl, ap, sym, ◌∙◌, Box, Global, zero}
use Rattle.std.proofs.Common.{suc, rules, ◌++◌, Option, Some, None, map, arith, length, slice_get, Vec, nat_eq}
use Rattle.std.proofs.Common.{if◌then◌else◌, option_to_list}
use Prim.Native.Nat.compare
use Rattle.std.proofs.lemmas.Bool.{and_parts, cases_Bool}
use Rattle.std.proofs.lemmas.Simd.{map-map}
use Rattle.std.proofs.lemmas.List.{length-map, map_push}
use Rattle.basic_toml_grammar.specs.Steps.{Step, key, Path, begins, number}
use Rattle.basic_toml_grow.specs.declared.item.Item as items
use Rattle.basic_toml_grow.specs.declared.item.Child.{Child, out-Child}
use Rattle.basic_toml_grow.specs.declared.item.Table.{Table}
use Rattle.basic_toml_grow.specs.Item.{table_trie}
use Rattle.basic_toml_grow.specs.Origins.{Origin, Origins, child_origins, entry, item_origins, table_within, no_origins}
use Rattle.basic_toml_grow.specs.Origins.{along, under, at_numbers, array_origin, Within, of_table}
use Rattle.basic_toml_grow.specs.Ways.{GrowsAlong, IsMarked, MarksWay, MarksTable}
use Rattle.basic_toml_grow.proofs.HeadersInATrie.{fresh}
use Rattle.basic_toml_grow.proofs.HeadersEntered.{holding}
use Rattle.basic_toml_grow.proofs.Origins.OriginsSeen.{table_origins, fresh_within, tables_seen, or_none}

-- a child with another item
pub holding_origins : (c : Child) (i : items.Item)
    → child_origins (holding c i) ≡ item_origins i (out-Child c).start (out-Child c).section
holding_origins c i = search (rules, items.the_lemmas)

-- what is not on the way comes from where it came before, also where an item is new
pub entry_keeps : (w : Path) (before now : Origins) (o : Origin)
    → ((s : Step) (p : Path) → begins (s ∷ p) w ≡ false → now (s ∷ p) ≡ before (s ∷ p))
    → (p : Path) → begins p w ≡ false → entry o now p ≡ before p
entry_keeps w before now o keeps [] not = absurd (cc)
entry_keeps w before now o keeps (s ∷ p) not = keeps s p not

-- and there no origins come
pub along_none : (w p : Path) → along w no_origins p ≡ None
along_none [] p = refl
along_none (s ∷ w) [] = refl
along_none (s ∷ w) (r ∷ p) = rw (along_none w p) (grind arith)

-- a table that stands at a key
pub table_marked : (n : ℕ) (w : Path) (t : Within) (at s : ℕ) → MarksTable n w t → MarksWay n w (of_table at s t)
table_marked n w t at s marks [] on = (marks.made, ap (λ b. if b then t.section else s) marks.made ∙ marks.section)
table_marked n w t at s marks (r ∷ p) on = marks.below r p on

-- an element after these, where there is one
last_at : (xs : List Origins) (last : Option Origins) (n : ℕ)
    → slice_get (xs ++ option_to_list last) n ≡ (if nat_eq n (length xs) then last else slice_get xs n)
last_at [] None n = grind arith
last_at [] (Some x) zero = refl
last_at [] (Some x) (suc n) = rw compare.suc-zero refl
last_at (y ∷ xs) last zero = rw compare.zero-suc refl
last_at (y ∷ xs) last (suc n) = rw compare.suc-suc (last_at xs last n)

-- the elements before the last one are as they were; the last has grown, or is new
pub last_grows : (xs : List Origins) (last : Option Origins) (now before rows : Origins) (w : Path) (o : Origin)
    → ((s : Step) (p : Path) → before (s ∷ p) ≡ at_numbers (xs ++ option_to_list last) (s ∷ p))
    → GrowsAlong w rows (under last) now
    → GrowsAlong (number (length xs) ∷ w) rows before (entry o (at_numbers (xs ++ now ∷ [])))
last_grows xs last now before rows w o same grows [] not = absurd (cc)
last_grows xs last now before rows w o same grows (key k ∷ q) not = rw (same (key k) q) refl
last_grows xs last now before rows w o same grows (number n ∷ q) not =
    rw (same (number n) q, last_at xs last n, last_at xs (Some now) n) (elim (cases_Bool (nat_eq n (length xs))) [
      | inl is ↦ rw is (grows q (rw is at not))
      | inr is ↦ rw is (sym (or_none _))
    ])

-- one more element after these, in the place of which nothing stood
pub element_grows : (xs : List Origins) (rows before : Origins) (o q : Origin)
    → ((s : Step) (p : Path) → before (s ∷ p) ≡ at_numbers xs (s ∷ p))
    → GrowsAlong (number (length xs) ∷ []) rows before (entry q (at_numbers (xs ++ entry o rows ∷ [])))
element_grows xs rows before o q same =
    last_grows xs None (entry o rows) before rows [] q
    (λ s p. same s p ∙ ap (λ os. at_numbers os (s ∷ p)) (sym (append-nil xs)))
    (entry_keeps [] _ rows o (λ s p not. refl))

pub none_below : (s : Step) (p : Path) → at_numbers [] (s ∷ p) ≡ None
none_below (key k) p = refl
none_below (number n) p = refl

-- what is marked in the last one
pub numbers_marked : (n : ℕ) (w : Path) (xs : List Origins) (x : Origins) (o : Origin) → IsMarked n (Some o)
    → MarksWay n w x → MarksWay n (number (length xs) ∷ w) (entry o (at_numbers (xs ++ x ∷ [])))
numbers_marked n w xs x o here marks [] on = here
numbers_marked n w xs x o here marks (key k ∷ q) on = absurd (cc)
numbers_marked n w xs x o here marks (number i ∷ q) on =
    let parts = and_parts (nat_eq i (length xs)) (begins q w) on in
    rw (last_at xs (Some x) i, parts.0) (marks q parts.1)

-- the elements of an array of tables
abbrev pub elements_of : ℕ → ℕ → List Table → List Origins
elements_of at s ts = map (λ t. of_table at s (table_within t)) ts

pub as_many : (at s : ℕ) (ts : List Table) → length (map table_trie ts) ≡ length (elements_of at s ts)
as_many at s ts = length-map ts table_trie ∙ sym (length-map ts (λ t. of_table at s (table_within t)))

pub array_below : (b : Box (Vec Table Global × Table) Global) (at s : ℕ) → item_origins (items.Tables b) at s
    ≡ entry (array_origin at (table_within b.value.1).section)
    (at_numbers (elements_of at s b.value.0.items ++ of_table at s (table_within b.value.1) ∷ []))
array_below b at s = rw (tables_seen b at s, map_push, map-map) refl

-- on into the latest element
pub latest_grows : (old after : Box (Vec Table Global × Table) Global) (w : Path) (rows : Origins)
    → after.value.0 ≡ old.value.0 → GrowsAlong w rows (table_origins old.value.1) (table_origins after.value.1)
    → (at s : ℕ) → GrowsAlong (number (length (map table_trie old.value.0.items)) ∷ w) rows
    (item_origins (items.Tables old) at s) (item_origins (items.Tables after) at s)
latest_grows old after w rows same grows at s =
    rw (array_below old at s, array_below after at s, same, as_many at s old.value.0.items)
    (last_grows (elements_of at s old.value.0.items) (Some _) _ _ rows w _ (λ r q. refl)
    (entry_keeps w _ (table_origins after.value.1) _ (λ r q not. grows (r ∷ q) not)))

pub latest_marks : (old after : Box (Vec Table Global × Table) Global) (n : ℕ) (w : Path) → after.value.0 ≡ old.value.0
    → MarksTable n w (table_within after.value.1) → (at s : ℕ)
    → MarksWay n (number (length (map table_trie old.value.0.items)) ∷ w) (item_origins (items.Tables after) at s)
latest_marks old after n w same marks at s =
    rw (array_below after at s, same, as_many at s old.value.0.items)
    (numbers_marked n w (elements_of at s old.value.0.items) (of_table at s (table_within after.value.1)) _
    (refl, marks.section) (table_marked n w (table_within after.value.1) at s marks))

-- a table that is added to an array comes from nowhere yet, but for what is on its way
pub more_keeps : (old after : Box (Vec Table Global × Table) Global) (at s : ℕ)
    → after.value.0.items ≡ old.value.0.items ++ old.value.1 ∷ [] → table_trie after.value.1 ≡ fresh
    → GrowsAlong (number (length (map table_trie after.value.0.items)) ∷ []) no_origins
    (item_origins (items.Tables old) at s) (item_origins (items.Tables after) at s)
more_keeps old after at s tables empty =
    let xs = elements_of at s after.value.0.items in
    let was : elements_of at s old.value.0.items ++ of_table at s (table_within old.value.1) ∷ [] ≡ xs =
    sym (rw (tables, map_push) refl) in
    rw (array_below old at s, array_below after at s, was, fresh_within after.value.1 empty)
    (rw (as_many at s after.value.0.items) (element_grows xs no_origins (entry _ (at_numbers xs)) _ _ (λ s p. refl)))
