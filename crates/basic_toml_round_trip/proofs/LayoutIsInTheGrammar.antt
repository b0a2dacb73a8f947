-- The text of a laid-out table, in characters at offset 0, is in the grammar, with the section list of the table.
use Rattle.std.proofs.Common.{◌≡◌, ℕ, Bool, true, false, cond, ◌&&◌, List, [], ◌∷◌, ◌++◌, map, ap, sym, subst}
use Rattle.std.proofs.Common.{append_assoc, append-nil, refl}
use Rattle.std.specs.Str.{chars}
use Rattle.basic_toml_tokens.specs.Text.{Text, is_comment, after_blanks}
use Rattle.basic_toml_value.specs.Data.{Items, Members}
use Rattle.basic_toml_layout.specs.Layout.{table_header, element_header, row_start}
use Rattle.basic_toml_layout.specs.Document.{Style}
use Rattle.basic_toml_grammar.specs.Sections.{Key, KeyTexts, Raw, Rows, no_rows, row, Section}
use Rattle.basic_toml_grammar.specs.Grammar as g
use Rattle.basic_toml_grammar.specs.Grammar.{IsRow, IsRows, IsHeader, IsSections, IsSectionList}
use Rattle.basic_toml_round_trip.proofs.LaidOut.{Laid, a_row, then_parts, Parts, no_parts, a_table, an_array, Nodes}
use Rattle.basic_toml_round_trip.proofs.LaidOut.{no_nodes, a_node}
use Rattle.basic_toml_round_trip.proofs.SectionsOfTable.{has_header, rows, backwards, section_of, inner_sections}
use Rattle.basic_toml_round_trip.proofs.SectionsOfTable.{part_sections, node_sections, sections}
use Rattle.basic_toml_round_trip.proofs.CharactersInFront.{onto, onto-append, onto_three}
use Rattle.basic_toml_round_trip.proofs.CharactersOfLayout.{path_chars}
use Rattle.basic_toml_round_trip.proofs.SpelledValues.{SpellsValues}
use Rattle.basic_toml_round_trip.proofs.CharactersOfTables.{row_chars, header_chars, table_chars, parts_chars}
use Rattle.basic_toml_round_trip.proofs.CharactersOfTables.{nodes_chars}
use Rattle.basic_toml_round_trip.proofs.KeysAreInTheGrammar.{AreTexts}
use Rattle.basic_toml_round_trip.proofs.HeadersAreInTheGrammar.{table_header_stands, element_header_stands}
use Rattle.basic_toml_round_trip.proofs.RowsAreInTheGrammar.{feed_ends, row_stands}

-- these rows and then these sections, up to the end
record Stands (text : Text) (rs : Rows) (ss : List Section) : Type 0 where
  mid : Text
  lines : IsRows is_comment text rs mid
  others : IsSections is_comment mid ss

in_text : {text other : Text} {rs : Rows} {ss : List Section} → text ≡ other → Stands other rs ss → Stands text rs ss
in_text {rs = rs} {ss = ss} e t = subst (λ x. Stands x rs ss) (sym e) t

as_list : {text : Text} {rs : Rows} {ss ts : List Section} → ss ≡ ts → Stands text rs ss → Stands text rs ts
as_list {text = text} {rs = rs} e t = subst (λ x. Stands text rs x) e t

-- an empty line, a row, or a header with its section in front
stands_feed : {text : Text} {rs : Rows} {ss : List Section} → Stands text rs ss → Stands ((0, 10) ∷ text) rs ss
stands_feed {text = text} t = record { mid = t.mid; lines = g.empty_line (feed_ends text) t.lines; others = t.others }

stands_row : {keys : List Key} {p : ℕ} {v : Raw} {text next : Text} {rs : Rows} {ss : List Section}
    → IsRow is_comment (after_blanks text) keys p v ((0, 10) ∷ next) → Stands next rs ss
    → Stands text (row keys p v rs) ss
stands_row {next = next} r t = record { mid = t.mid; lines = g.row_line r (feed_ends next) t.lines; others = t.others }

stands_header : (path : KeyTexts) {is_array : Bool} {after text : Text} {rs : Rows} {ss : List Section}
    → IsHeader ((0, 91) ∷ after) 0 (backwards path) is_array ((0, 10) ∷ text) → Stands text rs ss
    → Stands ((0, 91) ∷ after) no_rows (section_of path is_array rs ∷ ss)
stands_header path {after = after} {text = text} h t = record {
  mid = (0, 91) ∷ after;
  lines = g.header_next refl;
  others = g.section h (feed_ends text) t.lines t.others;
}

-- the header of a table, after a blank line or not
stands_table : (later : Bool) (k : List ℕ) (path : KeyTexts) {text : Text} {rs : Rows} {ss : List Section}
    → AreTexts (k ∷ path)
    → Stands text rs ss
    → Stands (onto (table_header later (map chars (k ∷ path))) text) no_rows (section_of (k ∷ path) false rs ∷ ss)
stands_table later k path {text = text} {rs = rs} {ss = ss} u t = go later
  where
    here : Stands (onto (table_header false (map chars (k ∷ path))) text) no_rows (section_of (k ∷ path) false rs ∷ ss)
    here =
        in_text (ap (λ t. (0, 91) ∷ t) (onto-append (path_chars (k ∷ path)) (93 ∷ 10 ∷ []) text))
        (stands_header (k ∷ path) (table_header_stands k path ((0, 10) ∷ text) u) t)

    go : (later : Bool)
        → Stands (onto (table_header later (map chars (k ∷ path))) text) no_rows (section_of (k ∷ path) false rs ∷ ss)
    go true = stands_feed here
    go false = here

-- and of an element
stands_element : (later : Bool) (k : List ℕ) (path : KeyTexts) {text : Text} {rs : Rows} {ss : List Section}
    → AreTexts (k ∷ path)
    → Stands text rs ss
    → Stands (onto (element_header later (map chars (k ∷ path))) text) no_rows (section_of (k ∷ path) true rs ∷ ss)
stands_element later k path {text = text} {rs = rs} {ss = ss} u t = go later
  where
    here : Stands (onto (element_header false (map chars (k ∷ path))) text) no_rows (section_of (k ∷ path) true rs ∷ ss)
    here =
        in_text (ap (λ t. (0, 91) ∷ (0, 91) ∷ t) (onto-append (path_chars (k ∷ path)) (93 ∷ 93 ∷ 10 ∷ []) text))
        (stands_header (k ∷ path) (element_header_stands k path ((0, 10) ∷ text) u) t)

    go : (later : Bool)
        → Stands (onto (element_header later (map chars (k ∷ path))) text) no_rows (section_of (k ∷ path) true rs ∷ ss)
    go true = stands_feed here
    go false = here

-- a table with its header, or without one where it needs none
stands_whole : (later : Bool) (k : List ℕ) (path : KeyTexts) {x : Members} (laid : Laid [] x) {text : Text}
    {ss : List Section} → AreTexts (k ∷ path) → Stands text (rows laid) ss
    → Stands (onto (header_chars (has_header laid) later (k ∷ path)) text) no_rows
    (cond (has_header laid) (section_of (k ∷ path) false (rows laid) ∷ []) [] ++ ss)
stands_whole later k path (a_row new text value laid) u t = stands_table later k path u t
stands_whole later k path (then_parts no_parts) u t = stands_table later k path u t
stands_whole later k path (then_parts (a_table new text laid parts)) u t = t
stands_whole later k path (then_parts (an_array new text nodes parts)) u t = t

module _ (style : Style) (spells : SpellsValues style) where
  mutual
    inner_stand : {seen : KeyTexts} {ms : Members} (laid : Laid seen ms) (later : Bool) (path : KeyTexts) {rest : Text}
        {ss : List Section} → AreTexts path → Stands rest no_rows ss
        → Stands (onto (table_chars style spells path later laid) rest) (rows laid) (inner_sections path laid ++ ss)
    inner_stand (a_row {k = k} {x = x} new text value laid) later path {rest = rest} u t =
        let spelled = spells (row_start k) x value in
        in_text (onto-append (row_chars k spelled) (table_chars style spells path true laid) rest)
        (stands_row (row_stands k spelled (onto (table_chars style spells path true laid) rest) text)
        (inner_stand laid true path u t))
    inner_stand (then_parts parts) later path u t = parts_stand parts later path u t

    parts_stand : {seen : KeyTexts} {ms : Members} (parts : Parts seen ms) (later : Bool) (path : KeyTexts) {rest : Text}
        {ss : List Section} → AreTexts path → Stands rest no_rows ss
        → Stands (onto (parts_chars style spells path later parts) rest) no_rows (part_sections path parts ++ ss)
    parts_stand no_parts later path u t = t
    parts_stand (a_table {k = k} new text laid parts) later path {rest = rest} u t =
        as_list (simp append_assoc)
        (in_text
        (onto_three (header_chars (has_header laid) later (k ∷ path)) (table_chars style spells (k ∷ path) (style.spaced && later) laid)
        (parts_chars style spells path true parts) rest)
        (stands_whole later k path laid (text, u)
        (inner_stand laid (style.spaced && later) (k ∷ path) (text, u) (parts_stand parts true path u t))))
    parts_stand (an_array {k = k} new text nodes parts) later path {rest = rest} u t =
        as_list (simp append_assoc)
        (in_text (onto-append (nodes_chars style spells (k ∷ path) later nodes) (parts_chars style spells path true parts) rest)
        (nodes_stand nodes later k path (text, u) (parts_stand parts true path u t)))

    nodes_stand : {xs : Items} (nodes : Nodes xs) (later : Bool) (k : List ℕ) (path : KeyTexts) {rest : Text}
        {ss : List Section} → AreTexts (k ∷ path) → Stands rest no_rows ss
        → Stands (onto (nodes_chars style spells (k ∷ path) later nodes) rest) no_rows (node_sections (k ∷ path) nodes ++ ss)
    nodes_stand no_nodes later k path u t = t
    nodes_stand (a_node laid nodes) later k path {rest = rest} u t =
        as_list (simp append_assoc)
        (in_text
        (onto_three (element_header later (map chars (k ∷ path))) (table_chars style spells (k ∷ path) style.spaced laid)
        (nodes_chars style spells (k ∷ path) true nodes) rest)
        (stands_element later k path u
        (inner_stand laid style.spaced (k ∷ path) u (nodes_stand nodes true k path u t))))

  -- the whole text
  pub layout_grammar : {ms : Members} (laid : Laid [] ms)
      → IsSectionList (onto (table_chars style spells [] false laid) []) (sections laid)
  layout_grammar laid =
      let t : Stands _ (rows laid) (inner_sections [] laid) =
      as_list (append-nil (inner_sections [] laid))
      (inner_stand laid false [] tt (record { mid = []; lines = g.over; others = g.no_more })) in
      record {
        rows = rows laid;
        headed = inner_sections [] laid;
        rest = t.mid;
        root = t.lines;
        others = t.others;
        all = refl;
      }
