-- The rows of an inline table with plain values: its data are their keys with the data of their values.
use Rattle.std.proofs.Common.{◌≡◌, ◌≤◌, ℕ, length, true, false, List, [], ◌∷◌, map, Option, Some, None, refl, sym, ap}
use Rattle.std.proofs.Common.{◌∙◌, subst, arith, IsTrue, Vec, Global}
use Rattle.std.specs.Prelude.{nat_le, option_map}
use Rattle.std.specs.Str.{bytes_eq}
use Rattle.std.proofs.lemmas.Bool.{and_parts, or_parts}
use Rattle.std.proofs.lemmas.List.{length-map}
use Rattle.basic_toml_index.specs.Index.{IsIndex, few}
use Rattle.basic_toml_index.specs.Keys.{is_among, are_distinct}
use Rattle.basic_toml_index.specs.declared.Index.{Index}
use Rattle.basic_toml_value.specs.Data.{Data, member, members_of}
use Rattle.basic_toml_value.specs.Entries.{seen, texts_of}
use Rattle.basic_toml_value.specs.View.{view}
use Rattle.basic_toml_value.specs.declared.pairs.Pair.{Pair}
use Rattle.basic_toml_value.specs.declared.value.Value.{Value, Table}
use Rattle.basic_toml_grammar.specs.Entering.{and_then}
use Rattle.basic_toml_grammar.specs.Mentions.{finished}
use Rattle.basic_toml_grammar.specs.Steps.{key}
use Rattle.basic_toml_grammar.specs.Growth as growth
use Rattle.basic_toml_grammar.specs.Standing.{Standing}
use Rattle.basic_toml_grammar.specs.Trie.{Trie, trie, Tries, no_tries, by, put_rows, with_tries, bare_tries}
use Rattle.basic_toml_grammar.proofs.Tries.RowsInATrie.{rows_in, rows_go_below, inline_data}
use Rattle.basic_toml_read.specs.declared.section.Raw.{Inline}
use Rattle.basic_toml_read.specs.declared.section.Row.{Row}
use Rattle.basic_toml_read.specs.SectionView.{rows_seen}
use Rattle.basic_toml_read.proofs.RowsHaveKeys.{rows_are_keyed}
use Rattle.basic_toml_plain.specs.Plain.{are_simple, are_few_simple, key_of, plain_data, rows_data}
use Rattle.basic_toml_plain.specs.Tries.{by_keys, row_trie, tree_data}
use Rattle.basic_toml_plain.specs.Values.{row_pair, section_data, value_pair}
use Rattle.basic_toml_plain.proofs.PlainSeen.{inline_of, lone_first}
use Rattle.basic_toml_plain.proofs.PlainValues.{all_simple}
use Rattle.basic_toml_plain.proofs.SimpleKeys.{few_are_simple, first_is_simple, keys_differ}
use Rattle.basic_toml_plain.proofs.DataParts.{entries_seen, table_seen, value_keys}

-- the data at keys
members_keys : (ps : List (List ℕ × Trie))
    → growth.members_of (bare_tries (by_keys ps)) ≡ members_of (map (λ p. (p.0, tree_data p.1)) ps)
members_keys [] = refl
members_keys (p ∷ ps) = ap (λ ms. member p.0 (tree_data p.1) ms) (members_keys ps)

pub keys_data : (s : Option Standing) (ps : List (List ℕ × Trie))
    → tree_data (trie s None (by_keys ps)) ≡ Data.table (members_of (map (λ p. (p.0, tree_data p.1)) ps))
keys_data s [] = refl
keys_data s (p ∷ ps) = ap Data.table (members_keys (p ∷ ps))

pub rows_agree : (rs : List Row)
    → map (λ (p : List ℕ × Trie). (p.0, tree_data p.1)) (map row_trie rs) ≡ map row_pair rs
rows_agree [] = refl
rows_agree (r ∷ rs) = ap (λ ps. row_pair r ∷ ps) (rows_agree rs)

-- what stands at a key that none of the rows has is left as it is
then_mapped : {A : Type 0} (f : A → A) (g : A → Option A) → ((a : A) → g (f a) ≡ option_map f (g a))
    → (o : Option A) → and_then (option_map f o) g ≡ option_map f (and_then o g)
then_mapped f g same None = refl
then_mapped f g same (Some a) = same a

rows_beside : (k : List ℕ) (t : Trie) (rs : List Row) (ts : Tries) → is_among (map key_of rs) k ≡ false
    → rows_in (rows_seen [] rs) (by (key k) t ts) ≡ option_map (λ ts. by (key k) t ts) (rows_in (rows_seen [] rs) ts)
rows_beside k t [] ts absent = refl
rows_beside k t (r ∷ rs) ts absent =
    let p = or_parts (bytes_eq k (key_of r)) (is_among (map key_of rs) k) absent in
    subst (λ rows. rows_in rows (by (key k) t ts) ≡ option_map (λ ts. by (key k) t ts) (rows_in rows ts))
    (sym (lone_first r rs))
    (rw p.0 (then_mapped (λ ts. by (key k) t ts) (λ ts. rows_in (rows_seen [] rs) ts)
    (λ us. rows_beside k t rs us p.1) _))

-- rows whose keys differ stand one after another
rows_stand : (l : ℕ) (rs : List Row) → are_simple l rs ≡ true
    → rows_in (rows_seen [] rs) no_tries ≡ Some (by_keys (map row_trie rs))
rows_stand l [] simple = refl
rows_stand l (r ∷ rs) simple =
    let first = first_is_simple l r rs simple in
    ap (λ rows. rows_in rows no_tries) (lone_first r rs)
    ∙ rows_beside (key_of r) (row_trie r).1 rs no_tries first.apart
    ∙ ap (option_map (λ ts. by (key (key_of r)) (row_trie r).1 ts)) (rows_stand l rs first.others)

-- the data of few simple rows, and of an inline table of them
pub few_data : (rs : List Row) → are_few_simple 0 rs ≡ true
    → rows_data rs ≡ Data.table (members_of (map row_pair rs))
few_data rs few_simple =
    let simple = few_are_simple 0 rs few_simple in
    let rows = rows_seen [] rs in
    let keyed = rows_are_keyed [] rs in
    let after = trie None None (by_keys (map row_trie rs)) in
    let put : put_rows rows (trie None None no_tries) ≡ Some after =
    rows_go_below rows None None no_tries keyed ∙ ap (λ ts. with_tries None None ts) (rows_stand 0 rs simple) in
    sym (inline_data rows None after keyed (all_simple rs 0 simple).apart put)
    ∙ keys_data None (map row_trie rs) ∙ ap (λ ps. Data.table (members_of ps)) (rows_agree rs)

pub inline_rows : (rs : Vec Row Global) → plain_data (Inline rs) ≡ rows_data rs.items
inline_rows rs = ap finished (inline_of rs)

-- values of the rows have their keys, which are few and differ
pub row_keys : (rows : List Row) → map (λ p. p.0) (map row_pair rows) ≡ map key_of rows
row_keys [] = refl
row_keys (r ∷ rs) = ap (λ ks. key_of r ∷ ks) (row_keys rs)

pub few_indexed : (copies : List (Pair Value)) (rows : List Row) (index : Index)
    → ((keys : List (List ℕ)) → IsTrue (are_distinct keys) → length keys ≤ few → IsIndex keys index)
    → are_few_simple 0 rows ≡ true → map value_pair copies ≡ map row_pair rows → IsIndex (texts_of copies) index
few_indexed copies rows index none simple same =
    let p = and_parts (nat_le (length rows) few) _ simple in
    let keys : texts_of copies ≡ map key_of rows = value_keys copies ∙ ap (map (λ p. p.0)) same ∙ row_keys rows in
    let at_most : length rows ≤ few = grind (arith, p.0) in
    rw keys (none (map key_of rows) (keys_differ 0 rows p.1) (omega (arith, length-map rows key_of)))

-- and what the table of them is seen as
pub values_seen : (table : List (List ℕ × Value)) (copies : List (Pair Value)) (rows : List Row) → table ≡ seen copies
    → map value_pair copies ≡ map row_pair rows → view (Table table) ≡ section_data rows
values_seen table copies rows is same = rw (is, table_seen, entries_seen copies, same) refl
