-- A record by its fields, in the order in which they are read, a line each. What it reads, and which faults it has, follow
-- from them. (own)
--
--     strict
--         (needed ⟦<String as Deserialize<'static>>⟧ "host" (λ s. s.host)
--         (or ⟦<u16 as Deserialize<'static>>⟧ "port" 8080 (λ s. s.port) done))
use Rattle.std.specs.Prelude.{◌≡◌, ◌⊎◌, ℕ, List, [], ◌∷◌, Option, MatchOption, codes, map, ⊤, String, string_bytes, Vec}
use Prim.Native.String.{String as Text}
use Rattle.std.specs.declared.alloc.Global.{Global}
use Rattle.basic_toml_value.specs.Data.{Data}
use Rattle.basic_toml_tree.specs.declared.node.Node.{Node}
use Rattle.basic_toml_tree.specs.Nodes.{node_data}
use Rattle.basic_toml_error.specs.Fault.{Fault}
use Rattle.basic_toml_typed.specs.declared.deserialize.Deserialize as deserialize
use Rattle.basic_toml_typed.specs.FieldKeys.{text_number}
use Rattle.basic_toml_typed.specs.FieldFaults.{field_fails, optional_fails, only_fails, FailsOr}
use Rattle.basic_toml_typed.specs.TypeAnswers.{OnlyMemory}
use Rattle.basic_toml_typed.specs.TypeReads.{field_reads, optional_reads, HasOnly}

-- an optional field, with what a value is for a table that lacks the key
unfoldable pub default_reads : {A : Type 0} → (Data → A → Type 0) → (A → Type 0) → ℕ → Data → A → Type 0
default_reads {A} reads IsDefault key d x =
    (found : Option A) × optional_reads reads key d found × MatchOption found (IsDefault x) (λ y. x ≡ y)

-- ---- one field

-- how it is read: which values from which table, and which faults come at which node
pub record Reading : Type 1 where
  pub Value : Type 0
  pub reads : Data → Value → Type 0
  pub fails : Node → Fault → Type 0

abbrev pub needed_at : {A : Type 0} → (Data → A → Type 0) → (Node → Fault → Type 0) → List ℕ → Reading
needed_at {A} reads faults name =
    record { Value = A; reads = field_reads reads (text_number name); fails = field_fails faults name }

abbrev pub maybe_at : {A : Type 0} → (Data → A → Type 0) → (Node → Fault → Type 0) → List ℕ → Reading
maybe_at {A} reads faults name =
    record { Value = Option A; reads = optional_reads reads (text_number name); fails = optional_fails faults name }

abbrev pub default_at : {A : Type 0} → (Data → A → Type 0) → (Node → Fault → Type 0) → List ℕ → (A → Type 0) → Reading
default_at {A} reads faults name IsDefault =
    record { Value = A; reads = default_reads reads IsDefault (text_number name); fails = optional_fails faults name }

-- that a table has no key but these
abbrev pub only_at : List (List ℕ) → Reading
only_at names = record { Value = ⊤; reads = λ d x. HasOnly (map text_number names) d; fails = only_fails names }

-- some value is read
unfoldable pub IsRead : Reading → Node → Type 0
IsRead reading node = (x : reading.Value) × reading.reads (node_data node) x

-- ---- fields one after another

abbrev pub AreRead : List Reading → Node → Type 0
AreRead [] node = ⊤
AreRead (reading ∷ readings) node = IsRead reading node × AreRead readings node

-- the first that is not read has the fault
abbrev pub FirstFails : List Reading → Node → Fault → Type 0
FirstFails [] node fault = ⊥
FirstFails (reading ∷ readings) node fault =
    FailsOr (reading.fails node fault) (IsRead reading node) (FirstFails readings node fault)

-- one of them reads nothing, memory aside
abbrev pub OneReadsNone : List Reading → Data → Fault → Type 0
OneReadsNone [] d fault = ⊥
OneReadsNone (reading ∷ readings) d fault = OnlyMemory ⊥ (reading.reads d) fault ⊎ OneReadsNone readings d fault

-- ---- a record

-- its fields: the name of each, how it is read, and where the record has it
pub data Fields (S : Type 0) : Type 1 where
  done : Fields S
  field : List ℕ → (reading : Reading) → (S → reading.Value) → Fields S → Fields S
  only : List (List ℕ) → Fields S → Fields S

abbrev pub needed : {S A : Type 0} → deserialize.Ghosts A → Text → (S → A) → Fields S → Fields S
needed T name get rest = field (codes name) (needed_at T.reads T.faults (codes name)) get rest

abbrev pub maybe : {S A : Type 0} → deserialize.Ghosts A → Text → (S → Option A) → Fields S → Fields S
maybe T name get rest = field (codes name) (maybe_at T.reads T.faults (codes name)) get rest

abbrev pub or : {S A : Type 0} → deserialize.Ghosts A → Text → A → (S → A) → Fields S → Fields S
or T name default get rest = field (codes name) (default_at T.reads T.faults (codes name) (λ x. x ≡ default)) get rest

-- a list that is empty where the table lacks it
abbrev pub IsEmpty : {A : Type 0} → Vec A Global → Type 0
IsEmpty v = v.items ≡ []

abbrev pub or_empty : {S A : Type 0} → deserialize.Ghosts (Vec A Global) → Text → (S → Vec A Global) → Fields S → Fields S
or_empty T name get rest = field (codes name) (default_at T.reads T.faults (codes name) IsEmpty) get rest

-- a string that is this text where the table lacks it
abbrev pub IsText : List ℕ → String Global → Type 0
IsText text s = string_bytes s ≡ text

abbrev pub or_text : {S : Type 0} → deserialize.Ghosts (String Global) → Text → Text → (S → String Global) → Fields S
    → Fields S
or_text T name default get rest =
    field (codes name) (default_at T.reads T.faults (codes name) (IsText (codes default))) get rest

abbrev pub names : {S : Type 0} → Fields S → List (List ℕ)
names done = []
names (field name reading get rest) = name ∷ names rest
names (only others rest) = names rest

-- the same, of a table that has no key but these names
abbrev pub strict : {S : Type 0} → Fields S → Fields S
strict fields = only (names fields) fields

abbrev pub readings : {S : Type 0} → Fields S → List Reading
readings done = []
readings (field name reading get rest) = reading ∷ readings rest
readings (only names rest) = only_at names ∷ readings rest

-- a value of the record is read where each of its fields is
abbrev pub record_reads : {S : Type 0} → Fields S → Data → S → Type 0
record_reads done d s = ⊤
record_reads (field name reading get rest) d s = reading.reads d (get s) × record_reads rest d s
record_reads (only names rest) d s = HasOnly (map text_number names) d × record_reads rest d s

abbrev pub record_faults : {S : Type 0} → Fields S → Node → Fault → Type 0
record_faults fields = FirstFails (readings fields)
