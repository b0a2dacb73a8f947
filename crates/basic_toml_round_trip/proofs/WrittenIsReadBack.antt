-- What is written is read back.
use Rattle.std.proofs.Common.{◌≡◌, ℕ, ◌≤◌, ◌==◌, false, List, [], ap, sym, ◌∙◌, subst, arith}
use Rattle.std.specs.Prelude.{nat_lt, if◌then◌else◌}
use Rattle.std.specs.Str.{IsUtf8}
use Rattle.std.proofs.lemmas.Bool.{or_parts, true≢false, ltb-false}
use Rattle.basic_toml_tokens.specs.Text.{first_of, folded, folded_from, text_at}
use Rattle.basic_toml_value.specs.Data as d
use Rattle.basic_toml_value.specs.Data.{Data, Members}
use Rattle.basic_toml_layout.specs.Written.{Written, scalar, absent, array, table}
use Rattle.basic_toml_layout.specs.Layout.{layout}
use Rattle.basic_toml_emit.specs.Depth as written
use Rattle.basic_toml_value.specs.Nesting.{nesting_limit}
use Rattle.basic_toml_write.specs.Kept.{kept}
use Rattle.basic_toml_write.specs.Shapes.{has_bad, is_unsupported}
use Rattle.basic_toml_layout.specs.Trees.{tree_of, written_of}
use Rattle.basic_toml_write.proofs.KeptHasSameLayout.{layout-kept, depth-kept}
use Rattle.basic_toml_write.proofs.TreesAreKept.{written-tree_kept}
use Rattle.basic_toml_grammar.specs.Depth.{depth}
use Rattle.basic_toml_grammar.specs.Document.{IsDocument}
use Rattle.basic_toml_grammar.specs.Respelled.{characters, has_return, has_byte_order_mark}
use Rattle.basic_toml_grammar.proofs.SameMeaning.OldDocumentsStand.{list_keyed}
use Rattle.basic_toml_grammar.proofs.SameMeaning.RespelledMeanTheSame.{offsets_mean_nothing}
use Rattle.basic_toml_layout.specs.Document.{Style, plain, document_text}
use Rattle.basic_toml_layout.proofs.OrderedText as o
use Rattle.basic_toml_layout.proofs.OrderedText.{ordered_text, same_text}
use Rattle.basic_toml_round_trip.proofs.LaidOut.{IsRow, LaidBy, Laid, laid_so, text_stays, in_order}
use Rattle.basic_toml_round_trip.proofs.LaidOut.{any_row, plain_order}
use Rattle.basic_toml_round_trip.proofs.SectionsOfTable.{sections}
use Rattle.basic_toml_round_trip.proofs.CharactersInFront.{onto, characters-onto}
use Rattle.basic_toml_round_trip.proofs.SpelledValues.{SpellsValues, plain_spells}
use Rattle.basic_toml_round_trip.proofs.CharactersOfTables.{table_chars}
use Rattle.basic_toml_round_trip.proofs.QuotedIsUtf8.{Spelt, spelt_utf8, spelt_chars, folded_characters}
use Rattle.basic_toml_round_trip.proofs.LayoutIsUtf8.{layout_spelt}
use Rattle.basic_toml_round_trip.proofs.LayoutIsInTheGrammar.{layout_grammar}
use Rattle.basic_toml_round_trip.proofs.GrammarHasNoByteOrderMark.{no_mark}
use Rattle.basic_toml_round_trip.proofs.SectionsMeanTheTree.{sections_mean}
use Rattle.basic_toml_round_trip.proofs.SpelledIsRecorded.{IsRecorded}
use Rattle.basic_toml_round_trip.proofs.SupportedIsLaidOut.{table_laid}
use Rattle.basic_toml_round_trip.proofs.KeptHasTheTree.{tree-kept, depth-written}

-- bytes that are read back as a tree, however their lines end and with U+FEFF in front or not
pub record IsText (bytes : List ℕ) (tree : Data) : Type 0 where
  pub document : IsDocument (folded bytes) tree
  pub utf8 : IsUtf8 bytes
  pub returnless : has_return bytes ≡ false
  pub markless : has_byte_order_mark bytes ≡ false

-- the text of a laid-out table
unmarked : {bytes cs : List ℕ} → Spelt bytes cs → (first_of cs == 0xFEFF) ≡ false → characters (folded bytes) ≡ cs
unmarked {bytes = bytes} {cs = cs} s e =
    ap (λ b. characters (text_at bytes (if b then 3 else 0))) (ap (λ cs. first_of cs == 0xFEFF) (spelt_chars s) ∙ e)
    ∙ ap (λ cs. characters (folded_from false 0 cs)) (spelt_chars s) ∙ folded_characters cs 0 s.fine

pub laid_text : (style : Style) (spells : SpellsValues style) {ms : Members} (laid : Laid [] ms)
    → depth (d.table ms) ≤ nesting_limit → IsText (o.in_order style [] false (in_order laid)) (d.table ms)
laid_text style spells {ms = ms} laid deep =
    let bytes : List ℕ = o.in_order style [] false (in_order laid) in
    let cs : List ℕ = table_chars style spells [] false laid in
    let s : Spelt bytes cs = layout_spelt style spells laid [] false tt in
    let g = layout_grammar style spells laid in
    let first : (first_of cs == 0xFEFF) ≡ false = no_mark cs (sections laid) g in
    let found : IsDocument (onto cs []) (d.table ms) =
    record { sections = sections laid; grammar = g; means = sections_mean laid (list_keyed g) deep } in
    record {
      document =
          (offsets_mean_nothing (onto cs []) (folded bytes) (d.table ms) (characters-onto cs ∙ sym (unmarked s first))).0
          found;
      utf8 = spelt_utf8 s;
      returnless = s.returnless;
      markless = ap (λ cs. first_of cs == 0xFEFF) (spelt_chars s) ∙ first;
    }

-- and of one whose rows are those of a document
pub document_is_text : (style : Style) (spells : SpellsValues style) {ms : Members} (laid : LaidBy IsRow [] ms)
    → depth (d.table ms) ≤ nesting_limit → IsText (document_text style ms) (d.table ms)
document_is_text style spells {ms = ms} laid deep =
    subst (λ bytes. IsText bytes (d.table ms))
    (text_stays style (λ x h. h.value) laid [] false ∙ sym (ordered_text (λ x h. h.row) style (in_order laid)))
    (laid_text style spells (laid_so (λ x h. h.value) laid) deep)

-- the layout of what is kept is the layout
pub kept_layout : (w : Written) → is_unsupported nesting_limit w ≡ false → layout (written_of (tree_of w)) ≡ layout w
kept_layout w u = ap layout (written-tree_kept nesting_limit w u) ∙ layout-kept w

pub written_text : (w : Written) → IsRecorded w → is_unsupported nesting_limit w ≡ false
    → IsText (layout w) (tree_of (kept w))
written_text (scalar l) r u = absurd (true≢false u)
written_text absent r u = absurd (true≢false u)
written_text (array es) r u = absurd (true≢false u)
written_text (table es) r u =
    let p : (has_bad (table es) ≡ false) × (nat_lt nesting_limit (written.depth (table es)) ≡ false) = or_parts _ _ u in
    let depths : depth (tree_of (table es)) ≡ written.depth (table es) =
    sym (depth-written (tree_of (table es))) ∙ ap written.depth (written-tree_kept nesting_limit (table es) u)
    ∙ depth-kept (table es) in
    let deep : depth (tree_of (table es)) ≤ nesting_limit =
    omega (arith, depths, ltb-false nesting_limit (written.depth (table es)) p.1) in
    subst (λ x. IsText (layout (table es)) x) (sym (tree-kept (table es)))
    (subst (λ b. IsText b (tree_of (table es)))
    (same_text (plain_order (table_laid es p.0 r)) ∙ kept_layout (table es) u)
    (document_is_text plain plain_spells (any_row (table_laid es p.0 r)) deep))
