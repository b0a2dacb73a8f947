-- A record by its fields, a line each, in the order in which they are read and written. What it reads and what it writes, and
-- what its values mean, follow from them. (own)
--
--     strict
--         (needed ⟦<String as Returns<'static>>⟧ "host" (λ s. s.host)
--         (or ⟦<u16 as Returns<'static>>⟧ "port" 8080 (λ s. s.port) done))
use Rattle.std.specs.Prelude.{◌≡◌, ℕ, Bool, true, ◌&&◌, List, [], ◌∷◌, Option, Some, option_map, MatchOption, codes, map, ⊤, String, Vec}
use Prim.Native.String.{String as Text}
use Rattle.std.specs.declared.alloc.Global.{Global}
use Rattle.basic_toml_value.specs.Data.{Data}
use Rattle.basic_toml_tree.specs.declared.node.Node.{Node}
use Rattle.basic_toml_error.specs.Fault.{Fault}
use Rattle.basic_toml_emit.specs.Items.{Item}
use Rattle.basic_toml_write.specs.declared.error.WriteError.{WriteError}
use Rattle.basic_toml_write.specs.Impls.{option_calls}
use Rattle.basic_toml_write.specs.Parts.{a_field, a_record, the_end}
use Rattle.basic_toml_typed.specs.FieldKeys.{text_number}
use Rattle.basic_toml_typed.specs.Records as r
use Rattle.basic_toml_typed.specs.Records.{IsEmpty, IsText, default_at, maybe_at, needed_at}
use Rattle.basic_toml_returns.specs.Means.{Rows, no_rows, row, table_of}
use Rattle.basic_toml_returns.specs.Returned.{ReadBack}
use Rattle.basic_toml_returns.specs.Rows.{are_new, are_rows_among}
use Rattle.basic_toml_returns.specs.WrittenFields.{AllHold}

-- the ghost members of a type that is read back from what it writes
abbrev pub Own : Type 0 → Type 1
Own A = record {
  reads : Data → A → Type 0;
  takes : Data → Type 0;
  faults : Node → Fault → Type 0;
  grows : Data → Type 0;
  moved : A → A;
  calls : A → List Item;
  gives_up : A → List Item → WriteError → Type 0;
  holds : A → Type 0;
  asks_no_memory : A → Type 0;
  read_back : ReadBack A;
}

-- Its fields, each with its name and where the record has it: one that a table has to have, one that it may lack, one with
-- a value for a table that lacks it; and which names alone the table may have.
pub data Fields (S : Type 0) : Type 1 where
  done : Fields S
  needed : {A : Type 0} → Own A → Text → (S → A) → Fields S → Fields S
  maybe : {A : Type 0} → Own A → Text → (S → Option A) → Fields S → Fields S
  with_default : {A : Type 0} → Own A → Text → (A → Type 0) → (S → A) → Fields S → Fields S
  only : List (List ℕ) → Fields S → Fields S

abbrev pub or : {S A : Type 0} → Own A → Text → A → (S → A) → Fields S → Fields S
or T name default get rest = with_default T name (λ x. x ≡ default) get rest

abbrev pub or_empty : {S A : Type 0} → Own (Vec A Global) → Text → (S → Vec A Global) → Fields S → Fields S
or_empty T name get rest = with_default T name IsEmpty get rest

abbrev pub or_text : {S : Type 0} → Own (String Global) → Text → Text → (S → String Global) → Fields S → Fields S
or_text T name default get rest = with_default T name (IsText (codes default)) get rest

abbrev pub names : {S : Type 0} → Fields S → List (List ℕ)
names done = []
names (needed T name get rest) = codes name ∷ names rest
names (maybe T name get rest) = codes name ∷ names rest
names (with_default T name IsDefault get rest) = codes name ∷ names rest
names (only others rest) = names rest

-- the same, of a table that has no key but these names
abbrev pub strict : {S : Type 0} → Fields S → Fields S
strict fields = only (names fields) fields

-- ---- how it is read

abbrev pub as_read : {S : Type 0} → Fields S → r.Fields S
as_read done = r.done
as_read (needed T name get rest) = r.field (codes name) (needed_at T.read_back.reads T.faults (codes name)) get (as_read rest)
as_read (maybe T name get rest) = r.field (codes name) (maybe_at T.read_back.reads T.faults (codes name)) get (as_read rest)
as_read (with_default T name IsDefault get rest) =
    r.field (codes name) (default_at T.read_back.reads T.faults (codes name) IsDefault) get (as_read rest)
as_read (only names rest) = r.only names (as_read rest)

-- ---- what it writes

abbrev pub calls_of : {S : Type 0} → Fields S → S → List Item
calls_of done s = the_end
calls_of (needed T name get rest) s = a_field (codes name) (T.read_back.calls (get s)) (calls_of rest s)
calls_of (maybe T name get rest) s = a_field (codes name) (option_calls T.read_back.calls (get s)) (calls_of rest s)
calls_of (with_default T name IsDefault get rest) s = a_field (codes name) (T.read_back.calls (get s)) (calls_of rest s)
calls_of (only names rest) s = calls_of rest s

abbrev pub record_calls : {S : Type 0} → Fields S → S → List Item
record_calls fields s = a_record (calls_of fields s)

-- what holds of each field that was written
abbrev pub holds_of : {S : Type 0} → Fields S → S → List (Type 0)
holds_of done s = []
holds_of (needed T name get rest) s = T.read_back.holds (get s) ∷ holds_of rest s
holds_of (maybe T name get rest) s = MatchOption (get s) ⊤ T.read_back.holds ∷ holds_of rest s
holds_of (with_default T name IsDefault get rest) s = T.read_back.holds (get s) ∷ holds_of rest s
holds_of (only names rest) s = holds_of rest s

abbrev pub record_holds : {S : Type 0} → Fields S → S → Type 0
record_holds fields s = AllHold (holds_of fields s)

-- ---- what it means

abbrev pub rows_of : {S : Type 0} → Fields S → S → Rows
rows_of done s = no_rows
rows_of (needed T name get rest) s = row (codes name) (Some (T.read_back.meant (get s))) (rows_of rest s)
rows_of (maybe T name get rest) s = row (codes name) (option_map T.read_back.meant (get s)) (rows_of rest s)
rows_of (with_default T name IsDefault get rest) s = row (codes name) (Some (T.read_back.meant (get s))) (rows_of rest s)
rows_of (only names rest) s = rows_of rest s

abbrev pub record_meant : {S : Type 0} → Fields S → S → Data
record_meant fields s = table_of (rows_of fields s)

-- ---- which of them are read back

-- the rows have no names but those that the table may have
abbrev pub allows : {S : Type 0} → Fields S → Rows → Bool
allows done rows = true
allows (needed T name get rest) rows = allows rest rows
allows (maybe T name get rest) rows = allows rest rows
allows (with_default T name IsDefault get rest) rows = allows rest rows
allows (only names rest) rows = are_rows_among (map text_number names) rows && allows rest rows

-- no name stands twice, and the table may have each
abbrev pub AreApart : {S : Type 0} → Fields S → Type 0
AreApart {S} fields = (s : S) → (are_new [] (rows_of fields s) && allows fields (rows_of fields s)) ≡ true
