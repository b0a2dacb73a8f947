-- Values that are not plain, as they are made: the elements of an array one after another, and the rows of an inline
-- table, which is finished as the tree of its rows; what keeps a row out makes rows clash.
use Rattle.std.proofs.Common.{◌≡◌, ℕ, ◌||◌, List, [], ◌∷◌, ◌++◌, map, Ok, refl, sym, ap, ◌∙◌, arith, append_assoc, max}
use Rattle.std.proofs.Common.{Option, true, ◌<◌, ◌+◌, false, Some, None, Err, Box, Global, rules}
use Rattle.std.specs.Option.{option_or}
use Rattle.std.proofs.lemmas.List.{append-nil, map_push}
use Rattle.std.proofs.lemmas.Bool.{true_from_ne_false}
use Rattle.basic_toml_value.specs.Data.{Data, items_of}
use Rattle.basic_toml_value.specs.Nesting.{nesting_limit}
use Rattle.basic_toml_grammar.specs.Sections.{Raw, Elements, no_elements, element, Rows}
use Rattle.basic_toml_grammar.specs.RowClash.{elements_clash, rows_clash}
use Rattle.basic_toml_grammar.specs.Entering.{value_keyed, rows_keyed}
use Rattle.basic_toml_grammar.specs.Levels.{elements_level}
use Rattle.basic_toml_grammar.specs.Mentions.{finished_elements}
use Rattle.basic_toml_grammar.specs.Standing as standings
use Rattle.basic_toml_grammar.specs.Trie.{nothing, no_tries, put_rows}
use Rattle.basic_toml_grammar.proofs.Tries.RowsInATrie.{rows_put, inline_data}
use Rattle.basic_toml_plain.specs.Tries.{tree_data, leaf}
use Rattle.basic_toml_grow.specs.declared.item.Child.{Child}
use Rattle.basic_toml_grow.specs.declared.clash.Clash.{Clash}
use Rattle.basic_toml_grow.specs.declared.item.Item as items
use Rattle.basic_toml_grow.specs.declared.item.Table.{Table}
use Rattle.basic_toml_grow.specs.Clash.{Obstacle}
use Rattle.basic_toml_grow.specs.Item.{child_trie, empty_table, item_trie, table_trie}
use Rattle.basic_toml_grow.specs.Obstacles.{elements_obstacle, rows_obstacle}
use Rattle.basic_toml_grow.specs.Origins.{child_origins, elements_origins, dotted_of, item_origins, table_origin}
use Rattle.basic_toml_grow.specs.Rows.{AreFinished}
use Rattle.basic_toml_grow.specs.Takes.{MakesChild, TakesRows}
use Rattle.basic_toml_grow.proofs.ObstaclesAreStops.{value_free, rows_aside}
use Rattle.basic_toml_grow.proofs.ObstaclesPassOn.{behind_low}
use Rattle.basic_toml_grow.proofs.Origins.OriginsSeen.{inline_seen, fresh_within, table_origins}

-- elements that are left after some children are made
pub record ElementsAreLeft (s level : ℕ) (whole : Elements) (made : List Child) (rest : Elements) : Type 0 where
  pub values : (ds : List Data) → items_of ds ≡ finished_elements rest
      → items_of (map tree_data (map child_trie made) ++ ds) ≡ finished_elements whole
  pub come : elements_origins s whole ≡ map child_origins made ++ elements_origins s rest
  pub clash : elements_clash whole ≡ elements_clash rest
  pub met : elements_obstacle level whole ≡ elements_obstacle level rest
  pub high : max nesting_limit (elements_level level whole) ≡ max nesting_limit (elements_level level rest)

module _ {s level : ℕ} {whole : Elements} {made : List Child} where
  -- no elements are left
  pub elements_done : ElementsAreLeft s level whole made no_elements → AreFinished whole level (map child_trie made)
  elements_done left = record {
    values = rw append-nil at (left.values [] refl);
    apart = left.clash;
    fits = omega (arith, left.high);
  }

  -- one more element is made
  pub element_made : {at : ℕ} {v : Raw} {rest : Elements} {c : Child} → value_keyed v ≡ true
      → MakesChild v at s level (Ok c) → ElementsAreLeft s level whole made (element at v rest)
      → ElementsAreLeft s level whole (made ++ c ∷ []) rest
  element_made {at} {v} {rest} {c} keyed makes left =
      let done = makes.finished in
      let fits = done.fits in
      record {
        values = λ ds is. rw (map_push, map_push, append_assoc)
            (left.values (tree_data (child_trie c) ∷ ds) (rw (done.value, is) refl));
        come = rw (map_push, append_assoc, makes.origins) left.come;
        clash = left.clash ∙ ap (λ b. b || elements_clash rest) done.apart;
        met = left.met ∙ ap (λ (o : Option Obstacle). option_or o (elements_obstacle level rest))
            (value_free level v keyed done.apart fits);
        high = omega (arith, left.high);
      }

-- rows that no empty table takes clash
refused_clash : (rows : Rows) → rows_keyed rows ≡ true → put_rows rows empty_table ≡ None → rows_clash rows ≡ true
refused_clash rows keyed none = true_from_ne_false _ (λ clear.
    let put = rows_put rows (Some (standings.table false false false)) keyed clear in cc (none, put.1))

-- rows put into a table that is empty, at a level of those within the limit
module _ {rows : Rows} {start s level : ℕ} {old : Table} (keyed : rows_keyed rows ≡ true)
    (empty : table_trie old ≡ empty_table) (low : level < nesting_limit) where
  -- what they meet first the inline table does
  pub inline_refused : {new : Table} {clash : Clash} → TakesRows rows s (level + 1) old new (Err clash)
      → MakesChild (Raw.inline rows) start s level (Err clash)
  inline_refused {new} {clash} takes =
      let standing = Some (standings.table false false false) in
      let met = rw (empty, rows_aside (level + 1) rows standing None None None no_tries keyed) at takes.named in
      record {
        finished = grind (arith, refused_clash rows keyed, takes.entered);
        named = rw (behind_low (level + 1) (rows_obstacle (level + 1) rows nothing) (omega arith)) met;
        origins = tt;
        dotted = tt;
      }

  -- where they are put, it is made
  pub inline_made : (table : Box Table Global) (c : Child) → TakesRows rows s (level + 1) old table.value (Ok tt)
      → child_trie c ≡ item_trie (items.Inline table) → child_origins c ≡ item_origins (items.Inline table) start s
      → dotted_of c ≡ table_origin false start s → MakesChild (Raw.inline rows) start s level (Ok c)
  inline_made table c takes trie origins dotted =
      let is : item_trie (items.Inline table) ≡ leaf (tree_data (table_trie table.value)) =
      search (rules, items.the_lemmas) in
      let put = takes.entered in
      record {
        finished = record {
          value = trie ∙ is ∙ ap leaf (inline_data rows (Some (standings.table false false false))
              (table_trie table.value) keyed put.apart (ap (put_rows rows) (sym empty) ∙ put.put));
          apart = put.apart;
          fits = omega (arith, put.fits);
        };
        named = tt;
        origins = rw (origins, inline_seen, table_origins, takes.origins, fresh_within old empty) refl;
        dotted = dotted;
      }
