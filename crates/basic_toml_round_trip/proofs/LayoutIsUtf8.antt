-- The bytes of a text are the UTF-8 of the text in characters, and none is a carriage return.
use Rattle.std.proofs.Common.{ℕ, Bool, true, false, cond, ◌&&◌, List, [], ◌∷◌, ◌++◌, map, refl}
use Rattle.std.specs.Str.{chars, IsUtf8}
use Rattle.basic_toml_tokens.specs.Ascii as ascii
use Rattle.basic_toml_value.specs.Data.{Data, Items, Members}
use Rattle.basic_toml_layout.specs.Texts.{joined}
use Rattle.basic_toml_layout.specs.Layout.{blank_line, table_header, element_header, row_start}
use Rattle.basic_toml_layout.specs.Document.{Style}
use Rattle.basic_toml_layout.proofs.OrderedText as o
use Rattle.basic_toml_grammar.specs.Sections.{KeyTexts}
use Rattle.basic_toml_round_trip.proofs.LaidOut.{Laid, a_row, then_parts, Parts, no_parts, a_table, an_array}
use Rattle.basic_toml_round_trip.proofs.LaidOut.{Nodes, no_nodes, a_node, in_order, parts_in_order, nodes_in_order}
use Rattle.basic_toml_round_trip.proofs.SectionsOfTable.{has_header}
use Rattle.basic_toml_round_trip.proofs.CharactersOfLayout.{path_chars}
use Rattle.basic_toml_round_trip.proofs.SpelledValues.{Spelled, SpellsValues}
use Rattle.basic_toml_round_trip.proofs.CharactersOfTables.{row_chars, header_chars, table_chars, parts_chars}
use Rattle.basic_toml_round_trip.proofs.CharactersOfTables.{nodes_chars}
use Rattle.basic_toml_round_trip.proofs.KeysAreInTheGrammar.{AreTexts}
use Rattle.basic_toml_round_trip.proofs.QuotedIsUtf8.{Spelt, spelt-append, spelt_plain}
use Rattle.basic_toml_round_trip.proofs.ValuesAreUtf8.{key_spelt, start_spelt}

-- rows
row_spelt : {bytes : List ℕ} {x : Data} (k : List ℕ) (value : Spelled bytes x) → IsUtf8 k
    → Spelt (row_start k ++ (bytes ++ (ascii.line_feed ∷ []))) (row_chars k value)
row_spelt k value u = spelt-append (start_spelt k u) (spelt-append value.spelt (spelt_plain (10 ∷ []) refl))

-- headers
path_spelt : (path : KeyTexts) → AreTexts path → Spelt (joined path) (path_chars path)
path_spelt [] u = spelt_plain [] refl
path_spelt (k ∷ []) u = key_spelt k u.0
path_spelt (k ∷ l ∷ ks) u =
    spelt-append (path_spelt (l ∷ ks) u.1) (spelt-append (spelt_plain (46 ∷ []) refl) (key_spelt k u.0))

blank_spelt : (later : Bool) → Spelt (blank_line later) (blank_line later)
blank_spelt true = spelt_plain (10 ∷ []) refl
blank_spelt false = spelt_plain [] refl

table_spelt : (later : Bool) (path : KeyTexts) → AreTexts path
    → Spelt (table_header later path) (table_header later (map chars path))
table_spelt later path u =
    spelt-append (blank_spelt later)
    (spelt-append (spelt_plain (91 ∷ []) refl) (spelt-append (path_spelt path u) (spelt_plain (93 ∷ 10 ∷ []) refl)))

element_spelt : (later : Bool) (path : KeyTexts) → AreTexts path
    → Spelt (element_header later path) (element_header later (map chars path))
element_spelt later path u =
    spelt-append (blank_spelt later)
    (spelt-append (spelt_plain (91 ∷ 91 ∷ []) refl)
    (spelt-append (path_spelt path u) (spelt_plain (93 ∷ 93 ∷ 10 ∷ []) refl)))

header_spelt : (has later : Bool) (path : KeyTexts) → AreTexts path
    → Spelt (cond has (table_header later path) []) (header_chars has later path)
header_spelt true later path u = table_spelt later path u
header_spelt false later path u = spelt_plain [] refl

-- all of a text
module _ (style : Style) (spells : SpellsValues style) where
  mutual
    pub layout_spelt : {seen : KeyTexts} {ms : Members} (laid : Laid seen ms) (path : KeyTexts) (later : Bool)
        → AreTexts path → Spelt (o.in_order style path later (in_order laid)) (table_chars style spells path later laid)
    layout_spelt (a_row {k = k} {x = x} new text value laid) path later u =
        spelt-append (row_spelt k (spells (row_start k) x value) text) (layout_spelt laid path true u)
    layout_spelt (then_parts parts) path later u = parts_spelt parts path later u

    parts_spelt : {seen : KeyTexts} {ms : Members} (parts : Parts seen ms) (path : KeyTexts) (later : Bool)
        → AreTexts path
        → Spelt (o.parts_in_order style path later (parts_in_order parts)) (parts_chars style spells path later parts)
    parts_spelt no_parts path later u = spelt_plain [] refl
    parts_spelt (a_table {k = k} new text laid parts) path later u =
        spelt-append
        (spelt-append
        (header_spelt (has_header laid) later (k ∷ path) (text, u))
        (layout_spelt laid (k ∷ path) (style.spaced && later) (text, u)))
        (parts_spelt parts path true u)
    parts_spelt (an_array {k = k} new text nodes parts) path later u =
        spelt-append (nodes_spelt nodes (k ∷ path) later (text, u)) (parts_spelt parts path true u)

    nodes_spelt : {xs : Items} (nodes : Nodes xs) (path : KeyTexts) (later : Bool) → AreTexts path
        → Spelt (o.nodes_in_order style path later (nodes_in_order nodes)) (nodes_chars style spells path later nodes)
    nodes_spelt no_nodes path later u = spelt_plain [] refl
    nodes_spelt (a_node laid nodes) path later u =
        spelt-append (spelt-append (element_spelt later path u) (layout_spelt laid path style.spaced u))
        (nodes_spelt nodes path true u)
