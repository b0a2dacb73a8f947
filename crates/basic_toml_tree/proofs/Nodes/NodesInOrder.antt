-- The elements of an array and the entries of a table, one after another.
use Rattle.std.proofs.Common.{arith, ◌≡◌, ℕ, zero, suc, ◌+◌, ◌<◌, List, [], ◌∷◌, ◌++◌, length, drop, map, Some, refl}
use Rattle.std.proofs.Common.{ap, ◌∙◌, sym, get_or, IsTrue, Vec, Box, Global, option_map, slice_get}
use Rattle.std.proofs.lemmas.List.{drop_more, map-append}
use Rattle.std.proofs.lemmas.Simd.{map-map}
use Rattle.std.specs.Iterator.{MakesProgress, item_count}
use Rattle.std.specs.declared.iter.Iterator.{can_next-default}
use Rattle.std.proofs.lemmas.Option.{get_or_from_slice_get, slice_get-map, slice_get_read, slice_get_within}
use Rattle.basic_toml_value.specs.Data.{Data, items_of, members_of}
use Rattle.basic_toml_index.specs.Keys.{are_distinct}
use Rattle.basic_toml_value.specs.Pairs.{keys_of}
use Rattle.basic_toml_plain.specs.PlainTables.{SectionTables, tables_in}
use Rattle.basic_toml_plain.specs.Values.{section_data}
use Rattle.basic_toml_grow.specs.declared.item.Item.{Array, Sections, Tables}
use Rattle.basic_toml_grow.specs.declared.item.Child.{Child}
use Rattle.basic_toml_grow.specs.declared.item.Table.{Table, out-Table}
use Rattle.basic_toml_tree.specs.Data.{data_of, child_data, table_data}
use Rattle.basic_toml_tree.specs.Nodes.{listed, paired, elements_in, entries_in}
use Rattle.basic_toml_tree.proofs.ItemData.{sections_item, tables_data, children_data, table_members}

pub listed-items : (ds : List Data) → listed (items_of ds) ≡ ds
listed-items [] = refl
listed-items (d ∷ ds) = ap (λ l. d ∷ l) (listed-items ds)

pub paired-members : (ps : List (List ℕ × Data)) → paired (members_of ps) ≡ ps
paired-members [] = refl
paired-members (p ∷ ps) = ap (λ l. p ∷ l) (paired-members ps)

module _ {A : Type 0} where
  -- what is read at a position comes first after those before it
  pub drop_next : (xs : List A) (i : ℕ) (x : A) → slice_get xs i ≡ Some x → drop i xs ≡ x ∷ drop (i + 1) xs
  drop_next xs i x read =
      drop_more xs i x (slice_get_within _ _ _ read)
      ∙ ap (λ y. y ∷ drop (i + 1) xs) (get_or_from_slice_get xs i x x read)

  pub front_read : (xs ys : List A) (i : ℕ) (x : A) → slice_get xs i ≡ Some x → slice_get (xs ++ ys) i ≡ Some x
  front_read [] ys i x read = absurd (cc)
  front_read (y ∷ xs) ys zero x read = read
  front_read (y ∷ xs) ys (suc i) x read = front_read xs ys i x read

  pub last_read : (xs : List A) (x : A) → slice_get (xs ++ x ∷ []) (length xs) ≡ Some x
  last_read [] x = refl
  last_read (y ∷ xs) x = last_read xs x

module _ {A B : Type 0} (f : A → B) where
  pub read_mapped : (xs : List A) (i : ℕ) (x : A) → slice_get xs i ≡ Some x → slice_get (map f xs) i ≡ Some (f x)
  read_mapped xs i x read = slice_get-map f xs i ∙ ap (option_map f) read

  pub mapped_read : (xs : List A) (i : ℕ) (x : A) → i < length xs → x ≡ get_or xs i x
      → slice_get (map f xs) i ≡ Some (f x)
  mapped_read xs i x within read = read_mapped xs i x (slice_get_read _ _ _ _ refl within read)

-- the key and the value at a position, together
pub pair_read : {A : Type 0} (ps : List (List ℕ × A)) (i : ℕ) (k : List ℕ) (v : A)
    → slice_get (map (λ p. p.0) ps) i ≡ Some k → slice_get (map (λ p. p.1) ps) i ≡ Some v
    → slice_get ps i ≡ Some (k, v)
pair_read [] i k v key value = absurd (cc)
pair_read (p ∷ ps) zero k v key value = grind arith
pair_read (p ∷ ps) (suc i) k v key value = pair_read ps i k v key value

pub array_elements : (children : Vec Child Global)
    → elements_in (data_of (Array children)) ≡ map child_data children.items
array_elements children = ap elements_in (children_data children) ∙ listed-items (map child_data children.items)

pub tables_elements : (tables : Box (Vec Table Global × Table) Global)
    → elements_in (data_of (Tables tables)) ≡ map table_data tables.value.0.items ++ table_data tables.value.1 ∷ []
tables_elements tables =
    ap elements_in (tables_data tables)
    ∙ listed-items (map table_data tables.value.0.items ++ table_data tables.value.1 ∷ [])

pub sections_elements : (tables : Box SectionTables Global)
    → elements_in (data_of (Sections tables)) ≡ map (λ t. section_data t.1) (tables_in tables.value)
sections_elements tables =
    ap elements_in (sections_item tables)
    ∙ listed-items (map (λ t. section_data t.1) tables.value.0 ++ section_data tables.value.1.1 ∷ [])
    ∙ sym (map-append (λ t. section_data t.1) tables.value.0 (tables.value.1 ∷ []))

pub table_entries : (t : Table)
    → entries_in (table_data t) ≡ map (λ p. (p.0, child_data p.1)) (out-Table t).entries
table_entries t =
    ap entries_in (table_members t) ∙ paired-members (map (λ p. (p.0, child_data p.1)) (out-Table t).entries)

-- the keys of a table differ, as those of its entries do
pub distinct_keys : (d : Data) (t : Table) → d ≡ table_data t → IsTrue (are_distinct (keys_of (out-Table t).entries))
    → IsTrue (are_distinct (keys_of (entries_in d)))
distinct_keys d t same distinct = rw (same, table_entries t, map-map) distinct

pub ruleset table_keys = (distinct_keys)

-- an iterator that goes on to the rest of its items makes progress
pub progress : {S A D : Type 0} (rest : S → List D) (s t : S) (x : A) (d : D) → rest s ≡ d ∷ rest t
    → MakesProgress (can_next-default S A) (item_count rest) s (Some x) t
progress rest s t x d next =
    record { on = λ finite. (tt, tt, omega (arith, ap length next)); keeps = tt; rests = λ finite. tt }
