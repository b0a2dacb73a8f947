-- What a text is that is handed out. (own)
use Rattle.std.specs.Prelude.{◌≡◌, ℕ, false, List, [], Some}
use Rattle.basic_toml_tokens.specs.Text.{folded}
use Rattle.basic_toml_value.specs.Data.{Data, Members}
use Rattle.basic_toml_value.specs.Nesting.{nesting_limit}
use Rattle.basic_toml_grammar.specs.Document.{IsDocument}
use Rattle.basic_toml_layout.specs.Layout.{layout}
use Rattle.basic_toml_layout.specs.Trees.{tree_of, written_of}
use Rattle.basic_toml_layout.specs.Written.{Written}
use Rattle.basic_toml_emit.specs.Items.{Item}
use Rattle.basic_toml_write.specs.Kept.{kept}
use Rattle.basic_toml_write.specs.Shapes.{is_unsupported}
use Rattle.basic_toml_write.specs.Spelling.{Spells}
use Rattle.basic_toml.specs.RowsFirst.{rows_first}
use Rattle.serde.specs.Event.{Event, Log}
use Rattle.basic_toml_serde.specs.Built.{IsTableOf}
use Rattle.basic_toml_serde.specs.Sent.{AreItemsOf}

-- The items of the events spell a written value in which no unsupported shape occurs. The text is its layout, and is
-- read back as what is kept of that value: absent options are left out.
pub record IsTextOf (events : List Event) (text : List ℕ) : Type 0 where
  pub items : List Item
  pub sent : AreItemsOf events items
  pub value : Written
  pub spelled : Spells items value
  pub supported : is_unsupported nesting_limit value ≡ false
  pub laid_out : text ≡ layout value
  pub read_back : IsDocument (folded text) (tree_of (kept value))

-- The text is the layout of data with the rows of each table first, in which no unsupported shape occurs, and is read
-- back as them.
pub record IsTextRowsFirst (d : Data) (text : List ℕ) : Type 0 where
  pub supported : is_unsupported nesting_limit (written_of (rows_first d)) ≡ false
  pub laid_out : text ≡ layout (written_of (rows_first d))
  pub read_back : IsDocument (folded text) (rows_first d)

-- The items of the events spell a written value, and the text is that of its tree with the rows of each table first:
-- absent options are left out.
pub record IsRowsFirstTextOf (events : List Event) (text : List ℕ) : Type 0 where
  pub items : List Item
  pub sent : AreItemsOf events items
  pub value : Written
  pub spelled : Spells items value
  pub written : IsTextRowsFirst (tree_of value) text

-- the members of a table that the items of the events spell, without its absent options
abbrev pub IsTableOfEvents : List Event → Members → Type 0
IsTableOfEvents events members = (items : List Item) × AreItemsOf events items × IsTableOf items members

-- what has taken the items of these events
pub record HasTakenAll {S : Type 0} (has_recorded : S → List Item → Type 0) (events : List Event) (sink : S)
    : Type 0 where
  pub items : List Item
  pub sent : AreItemsOf events items
  pub recorded : has_recorded sink items

-- the text of events that a type says of this value
abbrev pub IsWritten : (Log → Log → Type 0) → List ℕ → Type 0
IsWritten writes text = (events : List Event) × writes (Some []) (Some events) × IsTextOf events text

-- the same with the rows of each table first
abbrev pub IsWrittenRowsFirst : (Log → Log → Type 0) → List ℕ → Type 0
IsWrittenRowsFirst writes text = (events : List Event) × writes (Some []) (Some events) × IsRowsFirstTextOf events text

-- the table of events that a type says of this value
abbrev pub IsSentTable : (Log → Log → Type 0) → Members → Type 0
IsSentTable writes members = (events : List Event) × writes (Some []) (Some events) × IsTableOfEvents events members
