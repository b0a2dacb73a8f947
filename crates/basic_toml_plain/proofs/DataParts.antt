-- The parts of data: how large they are, and one part after another.
use Rattle.std.proofs.Common.{◌≡◌, ℕ, suc, ◌+◌, ◌<◌, ◌≤◌, List, [], ◌∷◌, ◌++◌, length, get_or, ap, arith, refl, sym}
use Rattle.std.proofs.Common.{◌∙◌, map, take, drop, rules, Vec, Global}
use Rattle.std.proofs.lemmas.List.{drop_more, map-append, map_more, map_push, take-append-drop}
use Rattle.basic_toml_value.specs.Data.{Data, items_of, Members, no_members, member, members_of}
use Rattle.basic_toml_value.specs.Entries.{seen, texts_of}
use Rattle.basic_toml_value.specs.Text.{text_bytes}
use Rattle.basic_toml_value.specs.View.{view, entries}
use Rattle.basic_toml_value.specs.declared.pairs.Pair.{Pair}
use Rattle.basic_toml_value.specs.declared.value.Value as values
use Rattle.basic_toml_value.proofs.Sizes.{data_size, items_size, members_size}
use Rattle.basic_toml_plain.specs.PlainTables.{SectionTables, tables_in}
use Rattle.basic_toml_plain.specs.Values.{section_data, sections_data, value_pair}

some_size : (members : Members) → 2 ≤ members_size members
some_size no_members = omega arith
some_size (member key d ms) = let more = some_size ms in omega arith

-- one of some elements is smaller than they together
one_among : (xs : List Data) (d : Data) (ys : List Data) → data_size d < items_size (items_of (xs ++ d ∷ ys))
one_among [] d ys = omega arith
one_among (x ∷ xs) d ys = let more = one_among xs d ys in omega arith

-- and the value of one of some pairs
pair_among : (xs : List (List ℕ × Data)) (p : List ℕ × Data) (ys : List (List ℕ × Data))
    → suc (data_size p.1) < members_size (members_of (xs ++ p ∷ ys))
pair_among [] p ys = let more = some_size (members_of ys) in omega arith
pair_among (x ∷ xs) p ys = let more = pair_among xs p ys in omega arith

-- of elements and one more, these and that one are smaller
pub items_size-front : (ds : List Data) (d : Data) → items_size (items_of ds) ≤ items_size (items_of (ds ++ d ∷ []))
items_size-front [] d = omega arith
items_size-front (e ∷ ds) d = let more = items_size-front ds d in omega arith

pub items_size-last : (ds : List Data) (d : Data) → data_size d < items_size (items_of (ds ++ d ∷ []))
items_size-last ds d = one_among ds d []

module _ {A : Type 0} where
  -- the rest of items and of members, each after some passed ones
  pub items_size-rest : (xs : List Data) (f : A → Data) (x : A) (rest whole : List A)
      → xs ++ map f (x ∷ rest) ≡ map f whole → data_size (f x) < items_size (items_of (map f whole))
  items_size-rest xs f x rest whole same = rw (← same) (one_among xs (f x) (map f rest))

  pub members_size-rest : (xs : List (List ℕ × Data)) (f : A → List ℕ × Data) (x : A) (rest whole : List A)
      → xs ++ map f (x ∷ rest) ≡ map f whole → suc (data_size (f x).1) < members_size (members_of (map f whole))
  members_size-rest xs f x rest whole same = rw (← same) (pair_among xs (f x) (map f rest))

  -- what stands before an index, at it and after it
  around : {D : Type 0} (f : A → D) (xs : List A) (i : ℕ) (x : A) → i < length xs → x ≡ get_or xs i x
      → map f (take i xs) ++ map f (x ∷ drop (i + 1) xs) ≡ map f xs
  around f xs i x within read =
      sym (map-append f (take i xs) (x ∷ drop (i + 1) xs))
      ∙ ap (map f) (rw (read, ← drop_more xs i x within) (take-append-drop i xs))

  -- an element is smaller than the elements together
  pub items_size-at : (f : A → Data) (xs : List A) (i : ℕ) (x : A) → i < length xs → x ≡ get_or xs i x
      → data_size (f x) < items_size (items_of (map f xs))
  items_size-at f xs i x within read = items_size-rest _ f x _ xs (around f xs i x within read)

  -- a value is smaller than the pairs together
  pub members_size-at : (f : A → List ℕ × Data) (xs : List A) (i : ℕ) (x : A) → i < length xs → x ≡ get_or xs i x
      → suc (data_size (f x).1) < members_size (members_of (map f xs))
  members_size-at f xs i x within read = members_size-rest _ f x _ xs (around f xs i x within read)

module _ {A B D : Type 0} (f : A → D) (g : B → D) where
  -- one more is made of what stands at an index
  pub mapped_more : (xs next : List A) (ys : List B) (i : ℕ) (x : A) (y : B) → i < length ys → y ≡ get_or ys i y
      → next ≡ xs ++ x ∷ [] → map f xs ≡ map g (take i ys) → f x ≡ g y → map f next ≡ map g (take (i + 1) ys)
  mapped_more xs next ys i x y within read next_is same equal =
      rw (next_is, map_push f, map_more g ys i y within, ← read, same, equal) refl

-- what an array is seen as
pub array_seen : (elements : Vec values.Value Global)
    → view (values.Array elements) ≡ Data.array (items_of (map view elements.items))
array_seen elements = search (rules, values.the_lemmas)

-- what an array is seen as that has the tables of sections
pub sections_seen : (elements : Vec values.Value Global) (tables : SectionTables)
    → map view elements.items ≡ map (λ t. section_data t.1) (tables_in tables)
    → view (values.Array elements) ≡ sections_data tables
sections_seen elements tables same = rw (array_seen elements, same, map-append) refl

pub members_same : (a b : Members) → Data.table a ≡ Data.table b → a ≡ b
members_same a b e = cc

-- what a value of a table is seen as
pub table_seen : (pairs : List (List ℕ × values.Value)) → view (values.Table pairs) ≡ Data.table (entries pairs)
table_seen pairs = search (rules, values.the_lemmas)

pub entries_seen : (copies : List (Pair values.Value)) → entries (seen copies) ≡ members_of (map value_pair copies)
entries_seen [] = refl
entries_seen (p ∷ ps) = ap (λ ms. member (text_bytes p.key) (view p.value) ms) (entries_seen ps)

-- the keys of values
pub value_keys : (copies : List (Pair values.Value)) → texts_of copies ≡ map (λ p. p.0) (map value_pair copies)
value_keys [] = refl
value_keys (p ∷ ps) = ap (λ l. text_bytes p.key ∷ l) (value_keys ps)
