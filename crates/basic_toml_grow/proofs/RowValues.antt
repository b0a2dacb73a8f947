-- Rows with their values, put into a table of a level one after another: what they come to, and what keeps them out.
use Rattle.std.proofs.Common.{◌≡◌, ◌≤◌, ℕ, ◌+◌, ◌-◌, false, true, List, [], ◌∷◌, ◌++◌, length, map, None, refl, Ok, Err}
use Rattle.std.proofs.Common.{Result, sym, ap, ◌∙◌, arith, option_map}
use Rattle.std.specs.Option.{option_or}
use Rattle.std.proofs.Math.Bool.{or-false}
use Rattle.std.proofs.Math.Path.{fun_ext}
use Rattle.std.proofs.lemmas.Bool.{or_from, or_left, or_parts, or_right}
use Rattle.std.proofs.lemmas.List.{length-append, length-map, map-append}
use Rattle.basic_toml_value.specs.Nesting.{nesting_limit}
use Rattle.basic_toml_grammar.specs.Sections.{Key, texts, Raw, Rows, no_rows, row}
use Rattle.basic_toml_grammar.specs.RowClash.{rows_clash, value_clashes}
use Rattle.basic_toml_grammar.specs.Entering.{and_then, rows_keyed, value_keyed}
use Rattle.basic_toml_grammar.specs.Mentions.{finished}
use Rattle.basic_toml_grammar.specs.Trie.{Trie, put_row, put_rows}
use Rattle.basic_toml_grammar.specs.TrieStops.{try_put_row}
use Rattle.basic_toml_grammar.proofs.Tries.RowsThatOverlapAreRefused.{values_clash, put_apart}
use Rattle.basic_toml_read.specs.SectionView.{key_of, header_texts}
use Rattle.basic_toml_read.specs.declared.section.Key as keys
use Rattle.basic_toml_grow.specs.declared.clash.Clash.{Clash}
use Rattle.basic_toml_grow.specs.declared.item.Child.{Child}
use Rattle.basic_toml_grow.specs.declared.item.Table.{Table}
use Rattle.basic_toml_grow.specs.declared.met.Met.{Met}
use Rattle.basic_toml_grow.specs.Item.{table_trie}
use Rattle.basic_toml_grow.specs.Obstacles.{and_behind, held_obstacle, value_obstacle, rows_obstacle}
use Rattle.basic_toml_grow.specs.Origins.{Origins, Within, no_origins, or_else, row_origins, rows_origins, table_origin}
use Rattle.basic_toml_grow.specs.Origins.{table_within, value_origins, with_more}
use Rattle.basic_toml_grow.specs.Rows.{EntersRows, met_reason, reason}
use Rattle.basic_toml_grow.specs.RowStops.{SaysMet, SaysHeld}
use Rattle.basic_toml_grow.specs.Takes.{MakesChild, TakesRow, TakesRows}
use Rattle.basic_toml_grow.proofs.ObstaclesAreStops.{row_behind, value_free}
use Rattle.basic_toml_grow.proofs.ObstaclesPassOn.{passed_on, behind_low}
use Rattle.basic_toml_grow.proofs.Origins.RowsPlaceOrigins.{within}

-- the values of rows that do not clash do not clash
values_apart : (rows : Rows) → rows_clash rows ≡ false → values_clash rows ≡ false
values_apart no_rows apart = refl
values_apart (row ks at v rows) apart =
    grind (arith, values_apart rows, or_parts)

-- where no row is, nothing is put
else_none : (f : Origins) → or_else f no_origins ≡ f
else_none f = fun_ext (λ p. grind arith)

pub none_taken : {s level : ℕ} {t : Table} → TakesRows no_rows s level t t (Ok tt)
none_taken {t = t} = record {
  entered = record { put = refl; apart = refl; fits = omega arith };
  named = tt;
  origins = let w = table_within t in sym (ap (within w.made w.section) (else_none w.below));
}

more_more : (w : Within) (f g : Origins) → with_more (with_more w f) g ≡ with_more w (or_else f g)
more_more w f g = ap (within w.made w.section) (fun_ext (λ p. grind arith))

-- a row alone, and what it brings
module _ (ks : List Key) (at : ℕ) (v : Raw) where
  abbrev alone : Rows
  alone = row ks at v no_rows

  put_alone : (t : Trie) → put_rows alone t ≡ put_row (texts ks) (finished v) t
  put_alone t = grind arith

  clash_alone : rows_clash alone ≡ value_clashes v
  clash_alone = or-false (value_clashes v)

  origins_alone : (s : ℕ)
      → rows_origins s alone ≡ row_origins (texts ks) (table_origin false at s) (value_origins s at v)
  origins_alone s = else_none (row_origins (texts ks) (table_origin false at s) (value_origins s at v))

-- and with others after it
module _ {s level : ℕ} {ks : List Key} {at : ℕ} {v : Raw} {rest : Rows} {old after : Table} where
  -- a row that is kept out keeps all rows out
  pub row_refused : {clash : Clash} → TakesRows (alone ks at v) s level old after (Err clash)
      → TakesRows (row ks at v rest) s level old after (Err clash)
  row_refused {clash} one = record {
    entered = grind (arith, or_left, or_right, clash_alone ks at v, put_alone ks at v, one.entered);
    named = passed_on clash (rows_obstacle level (alone ks at v) (table_trie old)) _ (λ x is. grind arith) one.named;
    origins = tt;
  }

  -- after a row that is in the table, what those after it come to, all come to
  pub row_taken : {now : Table} {r : Result (Unit {0}) Clash} → TakesRows (alone ks at v) s level old now (Ok tt)
      → rows_keyed (row ks at v rest) ≡ true → value_keyed v ≡ true → TakesRows rest s level now after r
      → TakesRows (row ks at v rest) s level old after r
  row_taken {now} {r} one keyed value takes =
      let last = level + length ks - 1 in
      let brings = row_origins (texts ks) (table_origin false at s) (value_origins s at v) in
      let is_put = sym (put_alone ks at v (table_trie old)) ∙ one.entered.put in
      let free = value_free last v value apart (omega (arith, one.entered.fits)) in
      record {
        entered = go r takes.entered;
        named = rw (row_behind level ks at v rest (table_trie old) (table_trie now) (omega (arith, one.entered.fits))
            free is_put) takes.named;
        origins = rw (one.origins, origins_alone ks at v s, more_more (table_within old) brings (rows_origins s rest))
            at takes.origins;
      }
    where
      apart : value_clashes v ≡ false
      apart = sym (clash_alone ks at v) ∙ one.entered.apart

      put : put_rows (row ks at v rest) (table_trie old) ≡ put_rows rest (table_trie now)
      put = ap (λ o. and_then o (λ t. put_rows rest t)) (sym (put_alone ks at v (table_trie old)) ∙ one.entered.put)

      go : (r : Result (Unit {0}) Clash) → EntersRows rest level (table_trie now) (table_trie after) r
          → EntersRows (row ks at v rest) level (table_trie old) (table_trie after) r
      go (Ok x) entered = record {
        put = put ∙ entered.put;
        apart = put_apart (row ks at v rest) (table_trie old) (table_trie after) keyed
            (or_from _ _ apart (values_apart rest entered.apart)) (put ∙ entered.put);
        fits = omega (arith, one.entered.fits, entered.fits);
      }
      go (Err clash) kept = grind (arith, or_right, put)

-- a row with its value
module _ (parents : List keys.Key) (k : Key) where
  abbrev ks : List Key
  ks = map key_of parents ++ k ∷ []

  same_texts : texts ks ≡ header_texts parents ++ k.text ∷ []
  same_texts = map-append (λ (k : Key). k.text) (map key_of parents) (k ∷ [])

  -- the level of what holds its value
  last_level : (level : ℕ) → level + length parents ≡ level + length ks - 1
  last_level level = omega (arith, length-append (map key_of parents) (k ∷ []), length-map parents key_of)

  met_is : (at : ℕ) (v : Raw) (level : ℕ) (t : Trie) → level + length parents ≤ nesting_limit
      → rows_obstacle level (alone ks at v) t
      ≡ option_or (option_map (held_obstacle ks) (value_obstacle (level + length parents) v))
      (and_behind (try_put_row [] ks (finished v) t) (λ _. None))
  met_is at v level t low = rw (← (last_level level)) (behind_low (level + length parents) _ low)

  module _ {at : ℕ} {v : Raw} {s level : ℕ} {old new : Table} (low : level + length parents ≤ nesting_limit) where
    -- its value is in the way
    pub value_refused : {clash held : Clash} → MakesChild v at s (level + length parents) (Err clash)
        → reason held ≡ reason clash → SaysHeld ks clash held → TakesRows (alone ks at v) s level old new (Err held)
    value_refused {clash} {held} makes same says =
        let o = value_obstacle (level + length parents) v in record {
          entered = grind (arith, last_level level, clash_alone ks at v, same, makes.finished);
          named = passed_on held (option_map (held_obstacle ks) o) _ (λ x is. rw (met_is at v level _ low, is) refl)
              (says o makes.named);
          origins = tt;
        }

    -- its value is made, and it is put, or something is met
    pub row_put : (child : Child) → MakesChild v at s (level + length parents) (Ok child)
        → TakesRow parents k.text child old new (Ok tt) → TakesRows (alone ks at v) s level old new (Ok tt)
    row_put child makes put = record {
      entered = record {
        put = rw (put_alone ks at v, same_texts) (put.entered (finished v) makes.finished.value);
        apart = clash_alone ks at v ∙ makes.finished.apart;
        fits = omega (arith, rw (last_level level) at makes.finished.fits, last_level level);
      };
      named = tt;
      origins = rw (origins_alone ks at v s, same_texts, ← makes.dotted, ← makes.origins) put.origins;
    }

    pub row_met : (child : Child) {met : Met} {clash : Clash} → value_keyed v ≡ true
        → MakesChild v at s (level + length parents) (Ok child) → TakesRow parents k.text child old new (Err met)
        → reason clash ≡ met_reason met → SaysMet (map key_of parents) k met clash
        → TakesRows (alone ks at v) s level old new (Err clash)
    row_met child {met} {clash} keyed makes put same says =
        let f = makes.finished in
        let o = try_put_row [] ks (finished v) (table_trie old) in
        let free = value_free (level + length parents) v keyed f.apart f.fits in
        record {
          entered = grind (arith, put_alone ks at v, same_texts, same, put.entered (finished v) f.value);
          named = passed_on clash (and_behind o (λ _. None)) _ (λ x is. rw (met_is at v level _ low, free) is)
              (says o (put.named (finished v) f.value [] k.offset));
          origins = tt;
        }
