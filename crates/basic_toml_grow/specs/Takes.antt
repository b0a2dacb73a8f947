-- What a section does to a table, to what stands at a key and to an item: what is entered or what is met first, where
-- what its rows bring comes from, and what its header marks.
use Rattle.std.specs.Prelude.{◌≡◌, ℕ, ◌+◌, Bool, false, List, [], ◌∷◌, ◌++◌, map, Result, IfErr, IfOk}
use Rattle.std.specs.declared.alloc.AllocError.{AllocError}
use Rattle.basic_toml_value.specs.Data.{Data}
use Rattle.basic_toml_grammar.specs.Sections.{KeyTexts, Raw, Rows}
use Rattle.basic_toml_read.specs.declared.section.Key as keys
use Rattle.basic_toml_read.specs.SectionView.{header_texts, key_of}
use Rattle.basic_toml_plain.specs.Tries.{leaf}
use Rattle.basic_toml_grow.specs.declared.clash.Clash.{Clash}
use Rattle.basic_toml_grow.specs.declared.met.Met.{Met}
use Rattle.basic_toml_grow.specs.declared.item.Item.{Item}
use Rattle.basic_toml_grow.specs.declared.item.Child.{Child, out-Child}
use Rattle.basic_toml_grow.specs.declared.item.Table.{Table}
use Rattle.basic_toml_grow.specs.Clash.{NamesObstacle}
use Rattle.basic_toml_grow.specs.Item.{child_trie, is_section, item_trie, table_trie, trie_before}
use Rattle.basic_toml_grow.specs.Headers.{EntersHeader, EntersItem, entered_at, entered_by, steps_at, steps_by}
use Rattle.basic_toml_grow.specs.Headers.{obstacle_at, obstacle_by}
use Rattle.basic_toml_grow.specs.Obstacles.{keys_obstacle, rows_obstacle, value_obstacle}
use Rattle.basic_toml_grow.specs.Origins.{child_origins, item_origins, origins_before, rows_origins, table_within}
use Rattle.basic_toml_grow.specs.Origins.{dotted_of, entry, or_else, row_origins, table_origin, value_origins}
use Rattle.basic_toml_grow.specs.Origins.{with_more}
use Rattle.basic_toml_grow.specs.Rows.{EntersRow, EntersRows, Extends, Finishes}
use Rattle.basic_toml_grow.specs.RowStops.{TellsRow, TellsExtended}
use Rattle.basic_toml_grow.specs.Ways.{GrowsAlong, MarksTable, MarksWay, way, way_at, way_by}

-- rows that go into a table of a level, of the section with a number
pub record TakesRows (rows : Rows) (section level : ℕ) (old new : Table) (r : Result (Unit {0}) Clash) : Type 0 where
  pub entered : EntersRows rows level (table_trie old) (table_trie new) r
  pub named : IfErr r (λ clash. NamesObstacle (rows_obstacle level rows (table_trie old)) clash)
  pub origins : IfOk r (λ _. table_within new ≡ with_more (table_within old) (rows_origins section rows))

-- a row with these keys before its last one, whose value is kept as a child
pub record TakesRow (parents : List keys.Key) (last : List ℕ) (child : Child) (old new : Table)
    (r : Result (Unit {0}) Met) : Type 0 where
  pub entered : (d : Data) → child_trie child ≡ leaf d
      → EntersRow (header_texts parents ++ last ∷ []) d (table_trie old) (table_trie new) r
  pub named : IfErr r (λ met. (d : Data) → child_trie child ≡ leaf d
      → TellsRow (map key_of parents) last d (table_trie old) met)
  pub origins : IfOk r (λ _. table_within new ≡ with_more (table_within old)
      (row_origins (header_texts parents ++ last ∷ []) (dotted_of child) (child_origins child)))

-- the rest of such a row, put into the table at a key that a period follows
pub record ExtendsBy (parents : List keys.Key) (last : List ℕ) (child old new : Child) (r : Result (Unit {0}) Met)
    : Type 0 where
  pub entered : (d : Data) → child_trie child ≡ leaf d
      → Extends (header_texts parents ++ last ∷ []) d (child_trie old) (child_trie new) r
  pub named : IfErr r (λ met. (d : Data) → child_trie child ≡ leaf d
      → TellsExtended (map key_of parents) last d (child_trie old) met)
  pub origins : IfOk r (λ _. child_origins new ≡ or_else (child_origins old) (entry (dotted_of child)
      (row_origins (header_texts parents ++ last ∷ []) (dotted_of child) (child_origins child))))

-- a value that begins at an offset of a section, within something of a level, as the child that it is kept as
pub record MakesChild (v : Raw) (start section level : ℕ) (r : Result Child Clash) : Type 0 where
  pub finished : Finishes v level r
  pub named : IfErr r (λ clash. NamesObstacle (value_obstacle level v) clash)
  pub origins : IfOk r (λ child. child_origins child ≡ value_origins section start v)
  pub dotted : IfOk r (λ child. dotted_of child ≡ table_origin false start section)

-- a header that goes on from a table of a level by the keys that are left
pub record TakesHeader (a : Bool) (rows : Rows) (keys : KeyTexts) (level n : ℕ) (old new : Table)
    (r : Result (Unit {0}) Clash) : Type 0 where
  pub entered : EntersHeader a rows keys level (table_trie old) (table_trie new) r
  pub named : IfErr r (λ clash. NamesObstacle (keys_obstacle a rows keys level (table_trie old)) clash)
  pub origins : IfOk r (λ _. GrowsAlong (way a keys (table_trie old)) (rows_origins n rows) (table_within old).below
      (table_within new).below)
  pub marks : IfOk r (λ _. MarksTable n (way a keys (table_trie old)) (table_within new))

-- from what stands at a key in a table of a level, which may be new
pub record TakesHeaderAtKey (a : Bool) (rows : Rows) (keys : KeyTexts) (level n : ℕ) (is_new : Bool) (old new : Child)
    (r : Result (Unit {0}) Clash) : Type 0 where
  pub entered : EntersItem (entered_at a rows keys (trie_before is_new (child_trie old))) rows
      (level + steps_at a keys (trie_before is_new (child_trie old))) (child_trie new) r
  pub named : IfErr r (λ clash. NamesObstacle
      (obstacle_at a rows keys (level + 1) (trie_before is_new (child_trie old))) clash)
  pub origins : IfOk r (λ _. GrowsAlong (way_at a keys (trie_before is_new (child_trie old))) (rows_origins n rows)
      (origins_before is_new (child_origins old)) (child_origins new))
  pub marks : IfOk r (λ _. MarksWay n (way_at a keys (trie_before is_new (child_trie old))) (child_origins new))

-- and from the item that stands there
pub record TakesHeaderInItem (a : Bool) (rows : Rows) (keys : KeyTexts) (level n : ℕ) (old new : Item)
    (r : Result (Unit {0}) Clash) : Type 0 where
  pub entered : EntersItem (entered_by a rows keys (item_trie old)) rows (level + steps_by a keys (item_trie old))
      (item_trie new) r
  pub named : IfErr r (λ clash. NamesObstacle (obstacle_by a rows keys (level + 1) (item_trie old)) clash)
  pub origins : IfOk r (λ _. (start section : ℕ) → GrowsAlong (way_by a keys (item_trie old)) (rows_origins n rows)
      (item_origins old start section) (item_origins new start section))
  pub marks : IfOk r (λ _. (start section : ℕ) → MarksWay n (way_by a keys (item_trie old))
      (item_origins new start section))

-- what stands at a key, once what was kept there as it was read is made into entries: it tells what it told
pub record Unfolds (old new : Child) (r : Result (Unit {0}) AllocError) : Type 0 where
  pub trie : IfOk r (λ _. child_trie new ≡ child_trie old)
  pub origins : IfOk r (λ _. child_origins new ≡ child_origins old)
  pub unfolded : IfOk r (λ _. is_section (out-Child new).item ≡ false)
  pub others : is_section (out-Child old).item ≡ false → new ≡ old
