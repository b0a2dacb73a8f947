-- The text of a laid-out table in characters, in a style that spells values.
use Rattle.std.specs.Prelude.{ℕ, Bool, true, cond, ◌&&◌, List, [], ◌∷◌, ◌++◌, map}
use Rattle.std.specs.Str.{chars}
use Rattle.basic_toml_value.specs.Data.{Data, Items, Members}
use Rattle.basic_toml_layout.specs.Layout.{row_start, table_header, element_header}
use Rattle.basic_toml_layout.specs.Document.{Style}
use Rattle.basic_toml_grammar.specs.Sections.{KeyTexts}
use Rattle.basic_toml_round_trip.proofs.LaidOut.{Laid, a_row, then_parts, Parts, no_parts, a_table, an_array, Nodes}
use Rattle.basic_toml_round_trip.proofs.LaidOut.{no_nodes, a_node}
use Rattle.basic_toml_round_trip.proofs.SectionsOfTable.{has_header}
use Rattle.basic_toml_round_trip.proofs.SpelledValues.{Spelled, SpellsValues}

-- a row
abbrev pub row_chars : {bytes : List ℕ} {x : Data} → List ℕ → Spelled bytes x → List ℕ
row_chars k value = row_start (chars k) ++ (value.chars_of ++ 10 ∷ [])

-- the header of a table, where it has one
abbrev pub header_chars : Bool → Bool → KeyTexts → List ℕ
header_chars has later path = cond has (table_header later (map chars path)) []

-- what stands below the header of a table at a path
module _ (style : Style) (spells : SpellsValues style) where
  abbrev mutual
    pub table_chars : {seen : KeyTexts} {ms : Members} → KeyTexts → Bool → Laid seen ms → List ℕ
    table_chars path later (a_row {k = k} {x = x} new text value laid) =
        row_chars k (spells (row_start k) x value) ++ table_chars path true laid
    table_chars path later (then_parts parts) = parts_chars path later parts

    pub parts_chars : {seen : KeyTexts} {ms : Members} → KeyTexts → Bool → Parts seen ms → List ℕ
    parts_chars path later no_parts = []
    parts_chars path later (a_table {k = k} new text laid parts) =
        (header_chars (has_header laid) later (k ∷ path) ++ table_chars (k ∷ path) (style.spaced && later) laid)
        ++ parts_chars path true parts
    parts_chars path later (an_array {k = k} new text nodes parts) =
        nodes_chars (k ∷ path) later nodes ++ parts_chars path true parts

    pub nodes_chars : {xs : Items} → KeyTexts → Bool → Nodes xs → List ℕ
    nodes_chars path later no_nodes = []
    nodes_chars path later (a_node laid nodes) =
        (element_header later (map chars path) ++ table_chars path style.spaced laid) ++ nodes_chars path true nodes
