-- The origins in a table and in what stands in it, one level at a time, and how they change at a key.
use Rattle.std.proofs.Common.{◌≡◌, ℕ, true, false, List, [], ◌∷◌, ◌++◌, Option, Some, None, refl, ap, inl, inr, sym}
use Rattle.std.proofs.Common.{arith, ◌∙◌, map, rules, option_map, slice_get, Vec, Box, Global, codes, ◌||◌, bytes_eq}
use Rattle.std.specs.Option.{option_or}
use Rattle.std.proofs.Math.Path.{fun_ext}
use Rattle.std.proofs.lemmas.Bool.{cases_Bool}
use Rattle.std.proofs.lemmas.Slice.Eq.{bytes_eq-Decides}
use Rattle.basic_toml_value.specs.Pairs.{value_at}
use Rattle.basic_toml_grammar.specs.Standing as standings
use Rattle.basic_toml_grammar.specs.Steps.{key, Path}
use Rattle.basic_toml_grammar.specs.Trie.{trie, no_tries}
use Rattle.basic_toml_plain.specs.Tries.{by_keys}
use Rattle.basic_toml_plain.specs.PlainTables.{SectionTables}
use Rattle.basic_toml_grow.specs.declared.item.Item.{the_lemmas, Array, Inline, Tables}
use Rattle.basic_toml_grow.specs.declared.item.Item as items
use Rattle.basic_toml_grow.specs.declared.item.Child.{Child, out-Child}
use Rattle.basic_toml_grow.specs.declared.item.Table.{Table, out-Table}
use Rattle.basic_toml_grow.specs.Item.{child_trie, table_trie}
use Rattle.basic_toml_value.specs.Growth.{with_value, values_of, FindsOrAdds}
use Rattle.basic_toml_value.specs.declared.pairs.growth.Place.{Place}
use Rattle.basic_toml_grow.specs.Origins.{Origin, Origins, no_origins, entry, under, at_keys, at_numbers}
use Rattle.basic_toml_grow.specs.Origins.{elements_within, section_origins, array_origin, value_origin, of_table}
use Rattle.basic_toml_grow.specs.Origins.{rows_origins, table_origin, item_origins, child_origins, table_within}
use Rattle.basic_toml_grow.specs.Origins.{or_else, origins_before, beyond}
use Rattle.basic_toml_read.specs.declared.section.Row.{Row}
use Rattle.basic_toml_read.specs.SectionView.{rows_seen}
use Rattle.basic_toml_grow.proofs.ItemTries.{table_entries_trie}
use Rattle.basic_toml_value.proofs.KeysChanged.{value_at-map, first_at, none_at, put_at, kept_elsewhere}
use Rattle.basic_toml_grow.proofs.KeysInATrie.{tries_of}

-- a child and a table, by their parts
pub child_seen : (c : Child)
    → child_origins c ≡ item_origins (out-Child c).item (out-Child c).start (out-Child c).section
child_seen c = search (rules, the_lemmas)

pub table_seen : (t : Table)
    → table_within t ≡ record {
      made = (out-Table t).passed || (out-Table t).named;
      section = (out-Table t).section;
      below = at_keys (map (λ p. (p.0, child_origins p.1)) (out-Table t).entries);
    }
table_seen t = search (rules, the_lemmas)

abbrev pub table_origins : Table → Origins
table_origins t = (table_within t).below

pub made_seen : (t : Table) → (table_within t).made ≡ ((out-Table t).passed || (out-Table t).named)
made_seen t = ap (λ w. w.made) (table_seen t)

pub section_seen : (t : Table) → (table_within t).section ≡ (out-Table t).section
section_seen t = ap (λ w. w.section) (table_seen t)

-- items, by their parts
pub table_item_seen : (t : Box Table Global) (at s : ℕ)
    → item_origins (items.Table t) at s ≡ of_table at s (table_within t.value)
table_item_seen t at s = search (rules, the_lemmas)

pub section_item_seen : (rows : List Row) (at s : ℕ)
    → item_origins (items.Section rows) at s ≡ entry (table_origin true at s) (rows_origins s (rows_seen [] rows))
section_item_seen rows at s = search (rules, the_lemmas)

pub sections_seen : (tables : Box SectionTables Global) (at s : ℕ)
    → item_origins (items.Sections tables) at s
    ≡ entry (array_origin at tables.value.1.0)
    (at_numbers (map (section_origins at) tables.value.0 ++ section_origins at tables.value.1 ∷ []))
sections_seen tables at s = search (rules, the_lemmas)

pub inline_seen : (t : Box Table Global) (at s : ℕ)
    → item_origins (Inline t) at s ≡ entry (value_origin (codes "inline table") at s) (table_origins t.value)
inline_seen t at s = search (rules, the_lemmas)

pub array_seen : (cs : Vec Child Global) (at s : ℕ)
    → item_origins (Array cs) at s
    ≡ entry (value_origin (codes "array") at s) (at_numbers (map child_origins cs.items))
array_seen cs at s = search (rules, the_lemmas)

pub tables_seen : (tables : Box (Vec Table Global × Table) Global) (at s : ℕ)
    → item_origins (Tables tables) at s
    ≡ entry (array_origin at (table_within tables.value.1).section)
    (at_numbers (elements_within at s (map table_within tables.value.0.items ++ table_within tables.value.1 ∷ [])))
tables_seen tables at s = search (rules, the_lemmas)

-- what stands at a key
pub seen_at_key : (t : Table) (k : List ℕ) (p : Path)
    → table_origins t (key k ∷ p) ≡ under (option_map child_origins (value_at (out-Table t).entries k)) p
seen_at_key t k p = rw (table_origins, table_seen t, value_at-map child_origins (out-Table t).entries k) refl

pub seen_at_none : (t : Table) → table_origins t [] ≡ None
seen_at_none t = rw (table_origins, table_seen t) refl

pub or_none : (o : Option Origin) → option_or o None ≡ o
or_none o = grind arith

-- a table where a key is entered, and another child put in the place of what stands there then
module _ {gives : Child → Type 0} (t u : Table) (there gone : Child) (k : List ℕ) (new : List (List ℕ × Child))
    (p : Place) (e : FindsOrAdds gives k (out-Table t).entries new p)
    (stands : slice_get (values_of new) p.position ≡ Some there)
    (put : (out-Table u).entries ≡ with_value new p.position gone) where
  stood : (q : Path) → table_origins t (key k ∷ q) ≡ origins_before p.is_new (child_origins there) q
  stood q =
      let at = first_at new p.position k there e.entered.at e.entered.first stands in
      seen_at_key t k q ∙ grind (arith, e.is_new, e.entered.pairs, at, none_at (out-Table t).entries k)

  pub stands_now : (q : Path) → table_origins u (key k ∷ q) ≡ child_origins gone q
  stands_now q =
      rw (seen_at_key u k q, put, put_at k e.there (out-Table t).entries new p.position e.entered there stands gone)
      refl

  -- what comes below the key comes into the table
  pub grows_at : (below : Origins) (q : Path)
      → ((r : Path) → q ≡ key k ∷ r
      → child_origins gone r ≡ or_else (origins_before p.is_new (child_origins there)) below r)
      → table_origins u q ≡ or_else (table_origins t) (beyond (key k) below) q
  grows_at below (key l ∷ q) more = elim (cases_Bool (bytes_eq l k)) [
    | inl is ↦
        let same : l ≡ k = (bytes_eq-Decides l k).0 is in
        rw (is, same, stood q) (stands_now q ∙ more q (ap (λ l. key l ∷ q) same))
    | inr is ↦
        let kept = kept_elsewhere k e.there (out-Table t).entries new p.position e.entered there stands gone l is in
        rw (is, seen_at_key u l q, put, kept, ← seen_at_key t l q) (sym (or_none _))
  ]
  grows_at below q more = rw (table_origins, table_seen u, table_seen t) refl

-- nothing comes from a table without entries
pub no_keys_below : at_keys [] ≡ no_origins
no_keys_below = fun_ext (λ p. grind arith)

no_entries : (ps : List (List ℕ × Child)) → by_keys (map (λ p. (p.0, child_trie p.1)) ps) ≡ no_tries → ps ≡ []
no_entries [] e = refl
no_entries (p ∷ ps) e = absurd (cc)

pub fresh_within : (t : Table) → table_trie t ≡ trie (Some (standings.table false false false)) None no_tries
    → table_within t ≡ record { made = false; section = (out-Table t).section; below = no_origins }
unfolding tries_of
fresh_within t is =
    let parts = sym (table_entries_trie t) ∙ is in
    let passed : (out-Table t).passed ≡ false = cc in
    let named : (out-Table t).named ≡ false = cc in
    let entries = no_entries (out-Table t).entries (cc) in
    rw (table_seen t, passed, named, entries, no_keys_below) refl
