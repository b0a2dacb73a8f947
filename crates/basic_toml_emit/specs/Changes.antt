-- What a step changes in the open frames.
use Rattle.std.specs.Prelude.{ℕ, List, [], ◌∷◌, ◌++◌, Bool, false, is_some}
use Rattle.basic_toml_layout.specs.Layout.{row_start}
use Rattle.basic_toml_emit.specs.Calls.{last_key, header_text}
use Rattle.basic_toml_emit.specs.Open.{Stage, no_key, key_set, entered, Frame, a_table, an_array}

-- it is taken away
abbrev pub outer : List Frame → List Frame
outer [] = []
outer (_ ∷ fs) = fs

-- whether it is an array whose entry stands after a present one of the same table
abbrev pub is_later : List Frame → Bool
is_later [] = false
is_later (a_table _ _ ∷ _) = false
is_later (an_array _ later ∷ _) = later

-- what a table waits for
abbrev pub with_stage : Stage → List Frame → List Frame
with_stage s (a_table _ t ∷ fs) = a_table s t ∷ fs
with_stage s fs = fs

-- the entry of the key that is set is present
abbrev pub with_entry : List Frame → List Frame
with_entry (a_table (key_set k) t ∷ fs) = a_table no_key (entered k t) ∷ fs
with_entry (a_table _ t ∷ fs) = a_table no_key t ∷ fs
with_entry fs = fs

-- the key that is set has a present entry already
abbrev pub holds_key : List Frame → Bool
holds_key (a_table (key_set k) t ∷ _) = t.keys k
holds_key _ = false

-- a present entry stands in the innermost table
abbrev pub has_entry : List Frame → Bool
has_entry (a_table _ t ∷ _) = is_some t.last
has_entry _ = false

-- what stands before the value of the entry whose key was entered last
abbrev pub value_start : List Frame → List ℕ
value_start (a_table _ t ∷ fs) = header_text t.header fs ++ row_start (last_key t.last)
value_start _ = []
