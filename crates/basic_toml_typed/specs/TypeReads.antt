-- What each type reads from the data of a node: `reads d x` says that the value x is read from the data d, and `takes d`
-- that one is, memory aside. No offset plays a part. (own)
use Rattle.std.specs.Prelude.{◌≡◌, ◌<◌, ◌^◌, ℕ, ℤ, pos, Bool, true, List, [], ◌∷◌, Option}
use Rattle.std.specs.Prelude.{Some, None, IsSome, IsTrue, map, ⊤, Vec, String, string_bytes}
use Rattle.std.specs.BTreeMap.{BTreeMap, get_by_text}
use Rattle.std.specs.Cow.{cow_str_bytes}
use Rattle.std.specs.declared.alloc.Global.{Global}
use Rattle.std.specs.declared.borrow.CowStr.{CowStr}
use Rattle.basic_toml_value.specs.Data.{Data, integer, float, boolean, string, array, table}
use Rattle.basic_toml_value.specs.Data.{boolean_in, float_in, string_in}
use Rattle.basic_toml_value.specs.View.{view, entries}
use Rattle.basic_toml_value.specs.declared.value.Value.{Value}
use Rattle.basic_toml_write.specs.Impls.{is_within}
use Rattle.basic_toml_tree.specs.Nodes.{is_table, listed, paired, data_among}
use Rattle.basic_toml_typed.specs.FieldKeys.{child_at, position_among, are_listed}

-- u8 to u64: an integer from 0 on and below 2^bits
abbrev pub unsigned_reads : ℕ → Data → ℕ → Type 0
unsigned_reads bits d n = (d ≡ integer (pos n)) × (n < 2 ^ bits)

abbrev pub unsigned_takes : ℕ → Data → Type 0
unsigned_takes bits d = (n : ℕ) × unsigned_reads bits d n

-- i8 to i64: an integer of so many bits, where `half` is one bit less
abbrev pub signed_reads : ℕ → Data → ℤ → Type 0
signed_reads half d z = (d ≡ integer z) × (is_within half z ≡ true)

abbrev pub signed_takes : ℕ → Data → Type 0
signed_takes half d = (z : ℤ) × signed_reads half d z

-- bool: a boolean
abbrev pub bool_reads : Data → Bool → Type 0
bool_reads d b = d ≡ boolean b

abbrev pub bool_takes : Data → Type 0
bool_takes d = IsSome (boolean_in d)

-- String and CowStr: a string
abbrev pub string_reads : Data → String Global → Type 0
string_reads d s = d ≡ string (string_bytes s)

abbrev pub cow_reads : Data → CowStr Global → Type 0
cow_reads d s = d ≡ string (cow_str_bytes s)

abbrev pub string_takes : Data → Type 0
string_takes d = IsSome (string_in d)

-- Float, seen as its text: a float, and no integer
abbrev pub float_reads : Data → List ℕ → Type 0
float_reads d text = d ≡ float text

abbrev pub float_takes : Data → Type 0
float_takes d = IsSome (float_in d)

-- Table: a table, and every one
abbrev pub table_reads : Data → List (List ℕ × Value) → Type 0
table_reads d t = d ≡ table (entries t)

abbrev pub table_takes : Data → Type 0
table_takes d = is_table d ≡ true

-- Value: anything
abbrev pub value_reads : Data → Value → Type 0
value_reads d v = d ≡ view v

abbrev pub value_takes : Data → Type 0
value_takes d = ⊤

-- what stands there, or that nothing does
abbrev pub some_reads : {A : Type 0} → (Data → A → Type 0) → Option Data → A → Type 0
some_reads reads None x = ⊥
some_reads reads (Some d) x = reads d x

abbrev pub maybe_reads : {A : Type 0} → (Data → A → Type 0) → Option Data → Option A → Type 0
maybe_reads reads None None = ⊤
maybe_reads reads None (Some x) = ⊥
maybe_reads reads (Some d) None = ⊥
maybe_reads reads (Some d) (Some x) = reads d x

abbrev pub some_takes : (Data → Type 0) → Option Data → Type 0
some_takes takes None = ⊥
some_takes takes (Some d) = takes d

abbrev pub maybe_takes : (Data → Type 0) → Option Data → Type 0
maybe_takes takes None = ⊤
maybe_takes takes (Some d) = takes d

-- Option: what its type reads, and never None
abbrev pub option_reads : {A : Type 0} → (Data → A → Type 0) → Data → Option A → Type 0
option_reads reads d None = ⊥
option_reads reads d (Some x) = reads d x

-- Vec: an array, each element in order
abbrev pub are_read : {A : Type 0} → (Data → A → Type 0) → List Data → List A → Type 0
are_read reads [] [] = ⊤
are_read reads [] (x ∷ xs) = ⊥
are_read reads (d ∷ ds) [] = ⊥
are_read reads (d ∷ ds) (x ∷ xs) = reads d x × are_read reads ds xs

unfoldable pub array_reads : {A : Type 0} → (Data → A → Type 0) → Data → Vec A Global → Type 0
array_reads reads (array items) v = are_read reads (listed items) v.items
array_reads reads _ v = ⊥

abbrev pub are_taken : (Data → Type 0) → List Data → Type 0
are_taken takes [] = ⊤
are_taken takes (d ∷ ds) = takes d × are_taken takes ds

unfoldable pub array_takes : (Data → Type 0) → Data → Type 0
array_takes takes (array items) = are_taken takes (listed items)
array_takes takes _ = ⊥

-- BTreeMap: a table; each key has what its type reads from the data at that key
unfoldable pub map_reads : {A : Type 0} → (Data → A → Type 0) → Data → BTreeMap (String Global) A → Type 0
map_reads reads (table members) m =
    (key : List ℕ) → maybe_reads reads (data_among members key) (get_by_text m key)
map_reads reads _ m = ⊥

unfoldable pub map_takes : (Data → Type 0) → Data → Type 0
map_takes takes (table members) = are_taken takes (map (λ p. p.1) (paired members))
map_takes takes _ = ⊥

-- a field of a record: a table that has the key, and what a type reads from the data there
unfoldable pub field_reads : {A : Type 0} → (Data → A → Type 0) → ℕ → Data → A → Type 0
field_reads reads key d x = some_reads reads (child_at key d) x

unfoldable pub field_takes : (Data → Type 0) → ℕ → Data → Type 0
field_takes takes key d = some_takes takes (child_at key d)

-- an optional field: the same, or a table that lacks the key
unfoldable pub optional_reads : {A : Type 0} → (Data → A → Type 0) → ℕ → Data → Option A → Type 0
optional_reads reads key d x = IsTrue (is_table d) × maybe_reads reads (child_at key d) x

unfoldable pub optional_takes : (Data → Type 0) → ℕ → Data → Type 0
optional_takes takes key d = IsTrue (is_table d) × maybe_takes takes (child_at key d)

-- a table with no key but these
unfoldable pub HasOnly : List ℕ → Data → Type 0
HasOnly names (table members) = are_listed names members ≡ true
HasOnly names _ = ⊥

-- a string that is the name at a position, and at none before it
unfoldable pub IsVariant : List ℕ → Data → ℕ → Type 0
IsVariant names (string text) position = position_among names text ≡ Some position
IsVariant names _ position = ⊥

unfoldable pub HasVariant : List ℕ → Data → Type 0
HasVariant names (string text) = IsSome (position_among names text)
HasVariant names _ = ⊥
