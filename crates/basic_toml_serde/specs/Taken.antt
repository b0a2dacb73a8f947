-- What a step of a reading takes from where it stands. (own)
use Rattle.std.specs.Prelude.{◌≡◌, ◌⊎◌, ◌≤◌, ℕ, ℤ, pos, List, Bool, true, false, Option, Some, None, encode_utf8}
use Rattle.basic_toml_value.specs.Data.{Data, integer_in, boolean_in}
use Rattle.basic_toml_tree.specs.Nodes.{is_table, is_array}
use Rattle.serde.specs.Event.{Event, boolean, signed, unsigned, single, double, character, text, octets, nothing, unit_variant, seq_begins, seq_ends, map_begins, map_ends, field_key, variant_key, key_begins, key_ends, flattens}
use Rattle.serde.specs.Names.{Finds}
use Rattle.serde.specs.declared.name.Name.{Name}
use Rattle.basic_toml_serde.specs.declared.walk.Walk.{Walk}
use Rattle.basic_toml_serde.specs.declared.reader.Reader.{Reader}
use Rattle.basic_toml_serde.specs.Ahead.{value_at, text_at, key_at, OpensArray, OpensTable, GoesOn, GoesToKey, Leaves}

-- the number that comes next, and the truth value
abbrev pub integer_of : {N : Type 0} → (N → Data) → Option N → Option ℤ
integer_of data_of None = None
integer_of data_of (Some item) = integer_in (data_of item)

abbrev pub integer_at : {N : Type 0} → (N → Data) → Walk N → Option ℤ
integer_at data_of w = integer_of data_of (value_at w)

abbrev pub truth_of : {N : Type 0} → (N → Data) → Option N → Option Bool
truth_of data_of None = None
truth_of data_of (Some item) = boolean_in (data_of item)

-- nothing but notes is changed
abbrev pub Stays : {N : Type 0} → Reader N → Reader N → Type 0
Stays old new = (new.walk ≡ old.walk) × (new.trial ≡ old.trial)

-- A number is taken as it stands there, unless another is tried in its place, for an error.
abbrev pub TakesInteger : {N : Type 0} → (N → Data) → Reader N → ℤ → Reader N → Type 0
TakesInteger data_of old z new =
    (old.trial ≡ None → integer_at data_of old.walk ≡ Some z) × Stays old new

-- no key comes any more
abbrev pub PassesKey : {N : Type 0} → Reader N → Reader N → Type 0
PassesKey old new = (new.walk ≡ record old.walk { at_key = false }) × (new.trial ≡ old.trial)

-- a text is taken, that of a key or that of a string
abbrev pub TakesText : {N : Type 0} → (N → Option (List ℕ)) → (N → Data) → Reader N → List ℕ → Reader N → Type 0
TakesText key_of data_of old s new = (text_at key_of data_of old.walk ≡ Some s) × PassesKey old new

-- the array or the table that comes next is opened
abbrev pub BeginsArray : {N : Type 0} → (N → Option (List ℕ)) → (N → Data) → Reader N → Reader N → Type 0
BeginsArray {N} key_of data_of old new =
    (array : N) × (value_at old.walk ≡ Some array) × (is_array (data_of array) ≡ true)
    × OpensArray key_of data_of array old.walk new.walk × (new.trial ≡ old.trial)

abbrev pub BeginsTable : {N : Type 0} → (N → Option (List ℕ)) → (N → Data) → Reader N → Reader N → Type 0
BeginsTable {N} key_of data_of old new =
    (table : N) × (value_at old.walk ≡ Some table) × (is_table (data_of table) ≡ true)
    × OpensTable key_of data_of table old.walk new.walk × (new.trial ≡ old.trial)

-- what is open has ended, and is left
abbrev pub Ends : {N : Type 0} → Reader N → Reader N → Type 0
Ends old new = (old.walk.end ≤ old.walk.cursor) × Leaves old.walk new.walk × (new.trial ≡ old.trial)

-- What each step takes. Which number a float is, and which bytes a step for bytes gives, is left open.
abbrev pub Reads : {N : Type 0} → (N → Option (List ℕ)) → (N → Data) → Reader N → Event → Reader N → Type 0
Reads key_of data_of old (boolean b) new = (truth_of data_of (value_at old.walk) ≡ Some b) × Stays old new
Reads key_of data_of old (signed z) new = TakesInteger data_of old z new
Reads key_of data_of old (unsigned n) new = TakesInteger data_of old (pos n) new
Reads key_of data_of old (single x) new = Stays old new
Reads key_of data_of old (double x) new = Stays old new
Reads key_of data_of old (character c) new = TakesText key_of data_of old (encode_utf8 c) new
Reads key_of data_of old (text s) new = TakesText key_of data_of old s new
Reads key_of data_of old (octets bs) new = PassesKey old new
Reads key_of data_of old nothing new = ⊥
Reads key_of data_of old (unit_variant name case) new = ⊥
Reads key_of data_of old (seq_begins n) new = BeginsArray key_of data_of old new
Reads key_of data_of old seq_ends new = Ends old new
Reads key_of data_of old (map_begins n) new = BeginsTable key_of data_of old new
Reads key_of data_of old map_ends new = Ends old new
Reads key_of data_of old (field_key name case) new = ⊥
Reads key_of data_of old (variant_key name case) new = ⊥
Reads key_of data_of old key_begins new = GoesToKey old.walk new.walk × (new.trial ≡ old.trial)
Reads key_of data_of old key_ends new = ⊥
Reads key_of data_of old flattens new = ⊥

-- A step only looks, or goes to the next element of what is open.
abbrev pub Looks : {N : Type 0} → Reader N → Reader N → Type 0
Looks old new = Stays old new ⊎ (GoesOn old.walk new.walk × (new.trial ≡ old.trial))

-- a name is picked by the key of the member that is gone to, or by the text that is taken
abbrev pub Picks : {N : Type 0} → (N → Option (List ℕ)) → (N → Data) → Reader N → Bool → List Name → ℕ → Reader N
    → Type 0
Picks key_of data_of old true names at new =
    (s : List ℕ) × GoesOn old.walk new.walk × (new.trial ≡ old.trial) × (key_at key_of new.walk ≡ Some s)
    × Finds names s at
Picks key_of data_of old false names at new =
    (s : List ℕ) × TakesText key_of data_of old s new × Finds names s at
