-- Written values: what a list of writer calls spells (own).
-- A written value is a scalar, an absent option, an array of elements or a table of entries in order.
-- Texts are bytes in UTF-8; a float is its canonical text.
use Rattle.std.specs.Prelude.{ℕ, ◌^◌, ℤ, pos, Bool, true, false, nat_le, List}

-- a value without parts of its own
pub data Scalar : Type 0 where
  integer : ℤ → Scalar
  boolean : Bool → Scalar
  float : List ℕ → Scalar
  -- a string that may also be a key
  text : List ℕ → Scalar
  -- a string that may not: a character, the name of a unit variant
  other_text : List ℕ → Scalar
  -- an array of integers
  bytes : List ℕ → Scalar
  -- a kind that TOML has no form for: a unit, a variant that holds data
  refused : Scalar

mutual
  pub data Written : Type 0 where
    scalar : Scalar → Written
    absent : Written
    array : Elements → Written
    table : Entries → Written

  pub data Elements : Type 0 where
    no_elements : Elements
    element : Written → Elements → Elements

  pub data Entries : Type 0 where
    no_entries : Entries
    entry : List ℕ → Written → Entries → Entries

abbrev pub is_absent : Written → Bool
is_absent absent = true
is_absent _ = false

abbrev pub is_table : Written → Bool
is_table (table _) = true
is_table _ = false

-- a refused kind, or an integer above 9223372036854775807
abbrev pub is_refused : Scalar → Bool
is_refused refused = true
is_refused (integer (pos n)) = nat_le (2 ^ 63) n
is_refused _ = false

abbrev pub is_bytes : Scalar → Bool
is_bytes (bytes _) = true
is_bytes _ = false
