-- Laws that join writing and reading. Each is proved as the contract of a function in `laws`.
use Rattle.std.specs.Prelude.{◌≡◌, ◌≤◌, ℕ, false, List, Ok, IsUtf8}
use Rattle.basic_toml_tokens.specs.Text.{folded}
use Rattle.basic_toml_value.specs.Data.{Data, Members, no_members, member, table}
use Rattle.basic_toml_value.specs.SameMaps.{SameMaps}
use Rattle.basic_toml_grammar.specs.Sections.{Section}
use Rattle.basic_toml_grammar.specs.Grammar.{IsSectionList}
use Rattle.basic_toml_grammar.specs.Levels.{highest_level}
use Rattle.basic_toml_value.specs.Nesting.{nesting_limit}
use Rattle.basic_toml_grammar.specs.Document.{IsDocument}
use Rattle.basic_toml_grammar.specs.Respelled.{with_returns, with_byte_order_mark}
use Rattle.basic_toml_layout.specs.Written.{Written}
use Rattle.basic_toml_emit.specs.Items.{Item}
use Rattle.basic_toml_layout.specs.Layout.{layout}
use Rattle.basic_toml_layout.specs.Document.{plain, row_text, document_text}
use Rattle.basic_toml_layout.specs.Style.{style_of}
use Rattle.basic_toml_layout.specs.declared.data.style.Style.{Style}
use Rattle.basic_toml_layout.specs.TextOrder.{text_order}
use Rattle.basic_toml_layout.specs.Valid.{IsValid}
use Rattle.basic_toml_grammar.specs.Depth.{depth}
use Rattle.basic_toml_emit.specs.Calls.{outcome}
use Rattle.basic_toml_write.specs.Spelling.{Spells}
use Rattle.basic_toml_write.specs.Recordable.{AreRecordable}
use Rattle.basic_toml_write.specs.Shapes.{is_unsupported}
use Rattle.basic_toml_write.specs.Kept.{kept}
use Rattle.basic_toml_layout.specs.Trees.{tree_of, written_of}
use Rattle.basic_toml_write.specs.Impls.{data_calls}

-- for each written value that calls spell, by items that can be recorded, and in which no unsupported shape occurs
abbrev pub ForEachWritten : (Written → Type 0) → Type 0
ForEachWritten P =
    (items : List Item)
    (w : Written) → Spells items w → AreRecordable items → is_unsupported nesting_limit w ≡ false → P w

-- what is written is read back: the document of the layout is the tree of what is kept, its keys in order
abbrev pub WrittenIsReadBack : Type 0
WrittenIsReadBack = ForEachWritten (λ w. IsDocument (folded (layout w)) (tree_of (kept w)))

-- no level of its section list passes the depth limit
abbrev pub WrittenLevelsFit : Type 0
WrittenLevelsFit = ForEachWritten (λ w.
    (sections : List Section) → IsSectionList (folded (layout w)) sections → highest_level sections ≤ nesting_limit)

-- it is read back with CR LF for each LF
abbrev pub WrittenIsReadWithReturns : Type 0
WrittenIsReadWithReturns = ForEachWritten (λ w. IsDocument (folded (with_returns (layout w))) (tree_of (kept w)))

-- and with one U+FEFF in front
abbrev pub WrittenIsReadWithByteOrderMark : Type 0
WrittenIsReadWithByteOrderMark =
    ForEachWritten (λ w. IsDocument (folded (with_byte_order_mark (layout w))) (tree_of (kept w)))

-- what is kept, as a tree, has the same layout, and no unsupported shape either
abbrev pub KeptHasTheLayout : Type 0
KeptHasTheLayout = ForEachWritten (λ w.
    let again = written_of (tree_of (kept w)) in
    (is_unsupported nesting_limit again ≡ false) × (layout again ≡ layout w))

-- so the calls of the tree that is read come to the same bytes
abbrev pub ReadIsWrittenAgain : Type 0
ReadIsWrittenAgain = ForEachWritten (λ w.
    (tree : Data) → IsDocument (folded (layout w)) tree → outcome nesting_limit (data_calls tree) ≡ Ok (layout w))

-- a tree that is written is read back as itself
abbrev pub TreeIsReadBack : Type 0
TreeIsReadBack =
    (tree : Data) → AreRecordable (data_calls tree) → is_unsupported nesting_limit (written_of tree) ≡ false
    → IsDocument (folded (layout (written_of tree))) tree

-- The text of any table that a value can hold, within the limit, means it, the rows of each table before its sections,
-- in each style. Its keys lead to the same values; and what is read has the same text.
abbrev pub DocumentIsReadBack : Type 0
DocumentIsReadBack =
    (style : Style) (ms : Members) → IsValid (table ms) → depth (table ms) ≤ nesting_limit
    → IsDocument (folded (document_text (style_of style) ms)) (table (text_order ms))

abbrev pub OrderHasSameMaps : Type 0
OrderHasSameMaps = (ms : Members) → SameMaps (table ms) (table (text_order ms))

abbrev pub OrderHasSameText : Type 0
OrderHasSameText =
    (style : Style) (ms : Members) → document_text (style_of style) (text_order ms) ≡ document_text (style_of style) ms

-- the row of any key and any value that a value can hold, on one line, means that value at that key, where it is not
-- nested too deeply
abbrev pub ValueIsReadBack : Type 0
ValueIsReadBack =
    (k : List ℕ) (x : Data) → IsUtf8 k → IsValid x → depth (table (member k x no_members)) ≤ nesting_limit
    → IsDocument (folded (row_text plain k x)) (table (member k x no_members))
