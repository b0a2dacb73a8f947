-- Where a walk of a tree stands, and how it goes on. (own)
use Rattle.std.specs.Prelude.{◌≡◌, ◌≤◌, ◌<◌, ◌+◌, ◌-◌, ◌++◌, ℕ, List, [], ◌∷◌, Bool, true, false, cond, Option, Some, None, take, length, option_to_list, slice_get}
use Rattle.basic_toml_value.specs.Data.{Data, string_in}
use Rattle.basic_toml_serde.specs.declared.walk.Level.{Level}
use Rattle.basic_toml_serde.specs.declared.walk.Mark.{Mark}
use Rattle.basic_toml_serde.specs.declared.walk.Walk.{Walk}
use Rattle.basic_toml_serde.specs.Added.{AddsElements, AddsEntries}

-- what comes next
abbrev pub item_at : {N : Type 0} → Walk N → Option N
item_at w = slice_get w.list.items w.next

-- what is open around what was read last, or that where nothing is open
abbrev pub container_in : {N : Type 0} → List N → ℕ → Option Level → Option N
container_in items next None = slice_get items next
container_in items next (Some level) = slice_get items level.container

abbrev pub container_at : {N : Type 0} → Walk N → Option N
container_at w = container_in w.list.items w.next (slice_get w.levels.items (length w.levels.items - 1))

-- the value that comes next, where no key comes before it
abbrev pub value_of : {N : Type 0} → Bool → Option N → Option N
value_of true item = None
value_of false item = item

abbrev pub value_at : {N : Type 0} → Walk N → Option N
value_at w = value_of w.at_key (item_at w)

-- the text that comes next: that of a key, or of a string
abbrev pub text_of : {N : Type 0} → (N → Option (List ℕ)) → (N → Data) → Bool → Option N → Option (List ℕ)
text_of key_of data_of at_key None = None
text_of key_of data_of true (Some item) = key_of item
text_of key_of data_of false (Some item) = string_in (data_of item)

abbrev pub text_at : {N : Type 0} → (N → Option (List ℕ)) → (N → Data) → Walk N → Option (List ℕ)
text_at key_of data_of w = text_of key_of data_of w.at_key (item_at w)

-- the key that leads to what comes next
abbrev pub key_in : {N : Type 0} → (N → Option (List ℕ)) → Option N → Option (List ℕ)
key_in key_of None = None
key_in key_of (Some item) = key_of item

abbrev pub key_at : {N : Type 0} → (N → Option (List ℕ)) → Walk N → Option (List ℕ)
key_at key_of w = key_in key_of (item_at w)

-- at the root, with nothing open
abbrev pub BeginsAt : {N : Type 0} → N → Walk N → Type 0
BeginsAt root w = (value_at w ≡ Some root) × (w.levels.items ≡ []) × (w.end ≤ w.cursor)

-- What stands here is opened: what it holds is added and comes next, and all else stays for later.
abbrev pub OpensFrom : {N : Type 0} → ℕ → Walk N → Walk N → Type 0
OpensFrom start old new =
    (new.list ≡ old.list)
    × (new.levels.items ≡ old.levels.items
    ++ (record { container = old.next; start = start; cursor = old.cursor; end = old.end }) ∷ [])
    × (new.cursor ≡ start) × (new.end ≡ length old.list.items)
    × (new.next ≡ old.next) × (new.at_key ≡ old.at_key) × (new.keeps ≡ old.keeps)

abbrev pub Opens : {N : Type 0} → Walk N → Walk N → Type 0
Opens old new =
    (new.levels.items ≡ old.levels.items
    ++ (record { container = old.next; start = length old.list.items; cursor = old.cursor; end = old.end }) ∷ [])
    × (new.cursor ≡ length old.list.items) × (new.end ≡ length new.list.items)
    × (new.next ≡ old.next) × (new.at_key ≡ old.at_key) × (new.keeps ≡ old.keeps)

abbrev pub OpensArray : {N : Type 0} → (N → Option (List ℕ)) → (N → Data) → N → Walk N → Walk N → Type 0
OpensArray key_of data_of array old new =
    AddsElements key_of data_of array old.list.items new.list.items × Opens old new

abbrev pub OpensTable : {N : Type 0} → (N → Option (List ℕ)) → (N → Data) → N → Walk N → Walk N → Type 0
OpensTable key_of data_of table old new =
    AddsEntries key_of data_of table old.list.items new.list.items × Opens old new

-- the next item of what is open comes next
abbrev pub GoesOn : {N : Type 0} → Walk N → Walk N → Type 0
GoesOn old new = (old.cursor < old.end) × (new ≡ record old { next = old.cursor; cursor = old.cursor + 1 })

-- the same, and its key comes before it
abbrev pub GoesToKey : {N : Type 0} → Walk N → Walk N → Type 0
GoesToKey old new =
    (old.cursor < old.end) × (new ≡ record old { next = old.cursor; cursor = old.cursor + 1; at_key = true })

-- what is open is left, if anything is
abbrev pub LeavesLevel : {N : Type 0} → Option Level → Walk N → Walk N → Type 0
LeavesLevel None old new =
    (new.next ≡ old.next) × (new.cursor ≡ old.cursor) × (new.end ≡ old.end) × (new.list ≡ old.list)
    × (new.at_key ≡ old.at_key) × (new.keeps ≡ old.keeps)
LeavesLevel (Some level) old new =
    (new.next ≡ level.container) × (new.cursor ≡ level.cursor) × (new.end ≡ level.end)
    × (new.list.items ≡ cond old.keeps old.list.items (take level.start old.list.items))
    × (new.at_key ≡ old.at_key) × (new.keeps ≡ old.keeps)

abbrev pub Leaves : {N : Type 0} → Walk N → Walk N → Type 0
Leaves old new = (level : Option Level) × (old.levels.items ≡ new.levels.items ++ option_to_list level)
    × LeavesLevel level old new

-- a place to come back to, and the walk that is there again
abbrev pub IsAt : {N : Type 0} → Walk N → Mark → Type 0
IsAt w mark = (mark.depth ≡ length w.levels.items) × (mark.next ≡ w.next) × (mark.cursor ≡ w.cursor)
    × (mark.end ≡ w.end) × (mark.at_key ≡ w.at_key)

abbrev pub ComesBack : {N : Type 0} → Mark → Walk N → Walk N → Type 0
ComesBack mark old new = (new.levels.items ≡ take mark.depth old.levels.items)
    × (new.list.items ≡ cond old.keeps old.list.items (take mark.end old.list.items))
    × (new.next ≡ mark.next) × (new.cursor ≡ mark.cursor) × (new.end ≡ mark.end) × (new.at_key ≡ mark.at_key)
    × (new.keeps ≡ old.keeps)
