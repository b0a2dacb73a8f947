-- Laws about the definitions of writing. Each is proved as the contract of a function in `laws`.
use Rattle.std.specs.Prelude.{◌≡◌, false, List, Contains, codes}
use Rattle.basic_toml_value.specs.Data.{Data}
use Rattle.basic_toml_layout.specs.Written.{Written, float}
use Rattle.basic_toml_emit.specs.Items.{Item, a_scalar}
use Rattle.basic_toml_layout.specs.Layout.{layout}
use Rattle.basic_toml_value.specs.Nesting.{nesting_limit}
use Rattle.basic_toml_emit.specs.Depth.{depth}
use Rattle.basic_toml_write.specs.Spelling.{Spells}
use Rattle.basic_toml_write.specs.Kept.{kept}
use Rattle.basic_toml_write.specs.Shapes.{is_unsupported}
use Rattle.basic_toml_layout.specs.Trees.{tree_of, written_of}
use Rattle.basic_toml_write.specs.Impls.{data_calls}
use Rattle.basic_toml_write.specs.Write.{ComesInOrder}
use Rattle.basic_toml_write.specs.Serializer.{HasRecorded}
use Rattle.basic_toml_write.specs.declared.serializer.Serializer.{Serializer}

-- a list spells at most one value
abbrev pub SpellsAtMostOne : List Item → Type 0
SpellsAtMostOne is = (v w : Written) → Spells is v → Spells is w → v ≡ w

-- a list that spells a value meets no error for the order of its calls, and none for a key that is no text
abbrev pub SpelledComesInOrder : Type 0
SpelledComesInOrder = (is : List Item) (w : Written) → Spells is w → ComesInOrder is

-- the items of a tree of data spell its written value
abbrev pub DataIsSpelled : Type 0
DataIsSpelled = (d : Data) → Spells (data_calls d) (written_of d)

-- a tree of data is what its written value keeps
abbrev pub DataIsKept : Type 0
DataIsKept = (d : Data) → tree_of (written_of d) ≡ d

-- what is kept of a value without an unsupported shape is the written value of its tree
abbrev pub KeptIsTree : Type 0
KeptIsTree = (w : Written) → is_unsupported nesting_limit w ≡ false → written_of (tree_of w) ≡ kept w

-- what is kept of a value has its text
abbrev pub KeptHasSameText : Type 0
KeptHasSameText = (w : Written) → layout (kept w) ≡ layout w

-- and its depth
abbrev pub KeptHasSameDepth : Type 0
KeptHasSameDepth = (w : Written) → depth (kept w) ≡ depth w

-- no list that is recorded holds the integer 12 as a float
abbrev pub RecordsNoIntegerAsFloat : Type 0
RecordsNoIntegerAsFloat =
    (s : Serializer) (is : List Item) → HasRecorded s is → Contains is (a_scalar (float (codes "12"))) → ⊥
