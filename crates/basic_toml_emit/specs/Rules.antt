-- Which error a call answers (own): the first rule that applies, in the order of `rules` below.
-- An error that was answered before comes before all of them, and want of memory after.
use Rattle.std.specs.Prelude.{ℕ, Bool, true, false, not, ◌&&◌, nat_le, List, [], ◌∷◌, length, Result, Err}
use Rattle.basic_toml_layout.specs.Written.{text, is_refused, is_bytes}
use Rattle.basic_toml_emit.specs.Items.{Item, a_scalar, an_absent, open_array, open_table, close, key, field}
use Rattle.basic_toml_emit.specs.Items.{some_prefix, value_prefix, element_prefix}
use Rattle.basic_toml_emit.specs.Open.{no_key, key_place, key_set, unknown, tables, others, Frame, a_table, an_array}

pub data CallFault : Type 0 where
  unsupported_type key_not_string value_after_table unsupported_none call_order nested_too_deeply : CallFault
  duplicate_key : List ℕ → CallFault

-- where the next item would stand
pub data Place : Type 0 where
  at_start at_end in_table at_key at_value in_array : Place

abbrev pub place_of : List Frame → Bool → Place
place_of [] false = at_start
place_of [] true = at_end
place_of (a_table no_key _ ∷ _) _ = in_table
place_of (a_table key_place _ ∷ _) _ = at_key
place_of (a_table (key_set _) _ ∷ _) _ = at_value
place_of (an_array _ _ ∷ _) _ = in_array

abbrev pub is_text : Item → Bool
is_text (a_scalar (text _)) = true
is_text _ = false

-- a scalar, a text, bytes, or an array or table that is opened
abbrev pub is_present : Item → Bool
is_present (a_scalar _) = true
is_present open_array = true
is_present open_table = true
is_present _ = false

-- a value, an absent one and the prefix of an option included
abbrev pub is_value : Item → Bool
is_value an_absent = true
is_value some_prefix = true
is_value i = is_present i

-- a present value that is no table
abbrev pub is_other : Item → Bool
is_other (a_scalar _) = true
is_other open_array = true
is_other _ = false

-- A text alone may stand at a key; that the rest is no text is a rule of its own.
abbrev pub may_stand : Place → Item → Bool
may_stand at_start i = is_value i
may_stand at_end i = false
may_stand in_table close = true
may_stand in_table key = true
may_stand in_table (field _) = true
may_stand in_table _ = false
may_stand at_key i = is_value i
may_stand at_value value_prefix = true
may_stand at_value i = is_value i
may_stand in_array close = true
may_stand in_array element_prefix = true
may_stand in_array i = is_value i

abbrev pub is_no_text_at_key : Place → Item → Bool
is_no_text_at_key at_key i = is_value i && not (is_text i)
is_no_text_at_key _ i = false

abbrev pub is_refused_kind : Item → Bool
is_refused_kind (a_scalar l) = is_refused l
is_refused_kind _ = false

-- absent, and no entry of a table
abbrev pub is_absent_outside : Place → Item → Bool
is_absent_outside at_start an_absent = true
is_absent_outside in_array an_absent = true
is_absent_outside _ _ = false

abbrev pub is_in_table : List Frame → Bool
is_in_table (a_table _ _ ∷ _) = true
is_in_table _ = false

abbrev pub is_in_array : List Frame → Bool
is_in_array (an_array _ _ ∷ _) = true
is_in_array _ = false

-- at the start what is no table; in an array a table beside a non-table, or the other way round, or a table where that
-- array is itself an element
abbrev pub is_misfit : List Frame → Item → Bool
is_misfit [] i = is_other i
is_misfit (an_array unknown _ ∷ fs) open_table = is_in_array fs
is_misfit (an_array others _ ∷ _) open_table = true
is_misfit (an_array tables _ ∷ _) i = is_other i
is_misfit _ i = false

-- a present entry whose key has a present entry already
abbrev pub is_repeated : List Frame → Item → Bool
is_repeated (a_table (key_set k) t ∷ _) i = is_present i && t.keys k
is_repeated _ i = false

abbrev pub key_of : List Frame → List ℕ
key_of (a_table (key_set k) _ ∷ _) = k
key_of _ = []

-- a table or a non-empty array of tables was written in the innermost table
abbrev pub holds_section : List Frame → Bool
holds_section (a_table _ t ∷ _) = t.holds_section
holds_section _ = false

-- A row after a section of its table; an array is a row from its first element that is no table, or from its end where
-- it is empty.
abbrev pub is_late_row : List Frame → Item → Bool
is_late_row (a_table (key_set _) t ∷ _) (a_scalar _) = t.holds_section
is_late_row (an_array unknown _ ∷ fs) (a_scalar _) = holds_section fs
is_late_row (an_array unknown _ ∷ fs) open_array = holds_section fs
is_late_row (an_array unknown _ ∷ fs) close = holds_section fs
is_late_row _ _ = false

-- opens an array or a table, as bytes do within one call
abbrev pub opens : Item → Bool
opens (a_scalar l) = is_bytes l
opens open_array = true
opens open_table = true
opens _ = false

abbrev pub is_too_deep : ℕ → List Frame → Item → Bool
is_too_deep limit fs i = opens i && nat_le limit (length fs)

-- whether a rule applies, and the error that it names
abbrev pub Rule : Type 0
Rule = Bool × CallFault

-- each rule for one item, by the place and the open frames, in order
abbrev pub rules : ℕ → Place → List Frame → Item → List Rule
rules limit p fs i =
    (is_no_text_at_key p i, key_not_string)
    ∷ (not (may_stand p i), call_order)
    ∷ (is_refused_kind i, unsupported_type)
    ∷ (is_absent_outside p i, unsupported_none)
    ∷ (is_misfit fs i, unsupported_type)
    ∷ (is_repeated fs i, duplicate_key (key_of fs))
    ∷ (is_late_row fs i, value_after_table)
    ∷ (is_too_deep limit fs i, nested_too_deeply)
    ∷ []

-- the first error that applies, or else this
abbrev pub refuse_if : {A : Type 0} → Bool → CallFault → Result A CallFault → Result A CallFault
refuse_if true e r = Err e
refuse_if false e r = r

abbrev pub first_fault : {A : Type 0} → List Rule → Result A CallFault → Result A CallFault
first_fault [] r = r
first_fault (b ∷ bs) r = refuse_if b.0 b.1 (first_fault bs r)
