-- The section list of a text: each section with its header and its rows, each key and value with its offset.
-- 'Keys', 'Table', 'Inline Table' and 'Array of Tables' of TOML v0.5.0.
-- An offset is a byte offset. The text of a key and a string are bytes in UTF-8, a float is its canonical text.
use Rattle.std.specs.Prelude.{ℕ, ℤ, Bool, List, map}

-- a key, and the offset where it begins
pub record Key : Type 0 where
  pub offset : ℕ
  pub text : List ℕ

-- keys without their offsets
abbrev pub KeyTexts : Type 0
KeyTexts = List (List ℕ)

abbrev pub texts : List Key → KeyTexts
texts keys = map (λ k. k.text) keys

mutual
  -- a value as it is written; of a string also whether it asks for a copy
  pub data Raw : Type 0 where
    integer : ℤ → Raw
    float : List ℕ → Raw
    boolean : Bool → Raw
    string : List ℕ → Bool → Raw
    array : Elements → Raw
    inline : Rows → Raw

  -- the elements of an array in order, each with the offset of its value
  pub data Elements : Type 0 where
    no_elements : Elements
    element : ℕ → Raw → Elements → Elements

  -- rows in order, each with its keys, the offset of its value, and the value
  pub data Rows : Type 0 where
    no_rows : Rows
    row : List Key → ℕ → Raw → Rows → Rows

-- A section: the offset of its first bracket, the keys of its header, whether the brackets are double, and its rows.
-- The root section stands at 0 and has no keys.
pub record Section : Type 0 where
  pub at : ℕ
  pub header : List Key
  pub is_array : Bool
  pub rows : Rows
