-- The laws, as their statements have them.
use Rattle.std.proofs.Common.{◌≡◌, ◌≤◌, Bool, true, false, ◌||◌, not, List, Some, None, Ok, refl, ap, sym, ◌∙◌}
use Rattle.std.proofs.Common.{subst, arith, append-nil}
use Rattle.std.specs.Prelude.{nat_le, nat_lt, if◌then◌else◌}
use Rattle.std.proofs.lemmas.Bool.{or_parts, or_from, true≢false, leb-true}
use Rattle.basic_toml_tokens.specs.Text.{Text, folded, is_comment}
use Rattle.basic_toml_value.specs.Data as d
use Rattle.basic_toml_value.specs.Data.{Data, no_members, member}
use Rattle.basic_toml_layout.specs.Written.{Written, scalar, absent, array, table}
use Rattle.basic_toml_layout.specs.Layout.{layout}
use Rattle.basic_toml_emit.specs.Depth as written
use Rattle.basic_toml_value.specs.Nesting.{nesting_limit}
use Rattle.basic_toml_emit.specs.Calls.{outcome}
use Rattle.basic_toml_write.specs.Kept.{kept}
use Rattle.basic_toml_write.specs.Shapes.{has_bad, is_unsupported}
use Rattle.basic_toml_layout.specs.Trees.{tree_of, written_of}
use Rattle.basic_toml_write.specs.Impls.{data_calls}
use Rattle.basic_toml_write.proofs.KeptHasSameLayout.{depth-kept}
use Rattle.basic_toml_write.proofs.OutcomeIsLayout.{outcome-layout}
use Rattle.basic_toml_write.proofs.TreesAreKept.{spells_tree, tree-written, written-tree_kept}
use Rattle.basic_toml_grammar.specs.Sections.{Section}
use Rattle.basic_toml_grammar.specs.Depth.{depth}
use Rattle.basic_toml_grammar.specs.Document.{has_clash, tree_of_sections, document_of, IsDocument}
use Rattle.basic_toml_grammar.proofs.LawsHold.{unambiguous, within}
use Rattle.basic_toml_grammar.proofs.SameMeaning.RespelledMeanTheSame.{returns_mean_nothing}
use Rattle.basic_toml_grammar.proofs.SameMeaning.RespelledMeanTheSame.{byte_order_mark_means_nothing}
use Rattle.basic_toml_round_trip.specs.Statements.{WrittenIsReadBack, WrittenLevelsFit, WrittenIsReadWithReturns}
use Rattle.basic_toml_round_trip.specs.Statements.{WrittenIsReadWithByteOrderMark, KeptHasTheLayout}
use Rattle.basic_toml_round_trip.specs.Statements.{ReadIsWrittenAgain, TreeIsReadBack}
use Rattle.basic_toml_round_trip.specs.Statements.{DocumentIsReadBack, OrderHasSameMaps, OrderHasSameText}
use Rattle.basic_toml_round_trip.specs.Statements.{ValueIsReadBack}
use Rattle.basic_toml_round_trip.proofs.SpelledIsRecorded.{IsRecorded, spelled_recorded}
use Rattle.basic_toml_round_trip.proofs.SupportedIsLaidOut.{table_laid}
use Rattle.basic_toml_round_trip.proofs.LaidOutIsSupported.{laid_supported}
use Rattle.basic_toml_round_trip.proofs.KeptHasTheTree.{tree-kept}
use Rattle.basic_toml_round_trip.proofs.WrittenIsReadBack.{kept_layout, written_text, laid_text, document_is_text}
use Rattle.basic_toml_round_trip.proofs.ValidIsLaidOut.{valid_in_row, valid_laid, order_deep}
use Rattle.basic_toml_round_trip.proofs.LaidOut.{a_row, then_parts, no_parts}
use Rattle.basic_toml_round_trip.proofs.SpelledValues.{plain_spells}
use Rattle.basic_toml_layout.specs.Document.{plain, row_text}
use Rattle.basic_toml_round_trip.proofs.PrettyValues.{style_spells}
use Rattle.basic_toml_layout.specs.Style.{style_of}
use Rattle.basic_toml_layout.specs.TextOrder.{text_order}
use Rattle.basic_toml_layout.proofs.TextOrderIsKept.{same_maps, same_document}

pub read_back : WrittenIsReadBack
read_back items w s r u = (written_text w (spelled_recorded s r) u).document

pub with_returns : WrittenIsReadWithReturns
with_returns items w s r u =
    let t = written_text w (spelled_recorded s r) u in
    (returns_mean_nothing (layout w) (tree_of (kept w)) t.utf8 t.returnless).0 t.document

pub with_byte_order_mark : WrittenIsReadWithByteOrderMark
with_byte_order_mark items w s r u =
    let t = written_text w (spelled_recorded s r) u in
    (byte_order_mark_means_nothing (layout w) (tree_of (kept w)) t.markless).0 t.document

-- what a document says of its section list
what_means : (sections : List Section) (tree : Data) → document_of sections ≡ Some tree
    → (has_clash sections ≡ false) × (depth (tree_of_sections sections) ≤ nesting_limit)
what_means sections tree = go (has_clash sections) refl (nat_le (depth (tree_of_sections sections)) nesting_limit) refl
  where
    go : (c : Bool) → has_clash sections ≡ c → (l : Bool) → nat_le (depth (tree_of_sections sections)) nesting_limit ≡ l
        → (if c || not l then None else Some (tree_of_sections sections)) ≡ Some tree
        → (c ≡ false) × (depth (tree_of_sections sections) ≤ nesting_limit)
    go true c l e f = cc
    go false c false e f = cc
    go false c true e f = (refl, leb-true (depth (tree_of_sections sections)) nesting_limit e)

pub levels_fit : WrittenLevelsFit
levels_fit items w s r u sections g =
    let d : IsDocument (folded (layout w)) (tree_of (kept w)) = read_back items w s r u in
    let same : sections ≡ d.sections = unambiguous is_comment (folded (layout w)) sections d.sections g d.grammar in
    let m = what_means sections (tree_of (kept w)) (ap document_of same ∙ d.means) in
    omega (arith, within (folded (layout w)) sections g m.0, m.1)

pub one_document : (text : Text) (tree other : Data) → IsDocument text tree → IsDocument text other → tree ≡ other
one_document text tree other d e =
    let same : d.sections ≡ e.sections = unambiguous is_comment text d.sections e.sections d.grammar e.grammar in
    let both : Some tree ≡ Some other = sym d.means ∙ ap document_of same ∙ e.means in
    cc

-- what is kept has no unsupported shape
kept_supported : (w : Written) → IsRecorded w → is_unsupported nesting_limit w ≡ false
    → is_unsupported nesting_limit (written_of (tree_of w)) ≡ false
kept_supported (scalar l) r u = absurd (true≢false u)
kept_supported absent r u = absurd (true≢false u)
kept_supported (array es) r u = absurd (true≢false u)
kept_supported (table es) r u =
    let p : (has_bad (table es) ≡ false) × (nat_lt nesting_limit (written.depth (table es)) ≡ false) = or_parts _ _ u in
    or_from _ _ (laid_supported (table_laid es p.0 r))
    (ap (λ v. nat_lt nesting_limit (written.depth v)) (written-tree_kept nesting_limit (table es) u)
    ∙ ap (nat_lt nesting_limit) (depth-kept (table es)) ∙ p.1)

pub kept_has_the_layout : KeptHasTheLayout
kept_has_the_layout items w s r u =
    subst (λ x. (is_unsupported nesting_limit (written_of x) ≡ false) × (layout (written_of x) ≡ layout w))
    (sym (tree-kept w))
    (kept_supported w (spelled_recorded s r) u, kept_layout w u)

pub written_again : ReadIsWrittenAgain
written_again items w s r u tree d =
    let k = kept_has_the_layout items w s r u in
    let same : tree_of (kept w) ≡ tree =
    one_document (folded (layout w)) (tree_of (kept w)) tree (read_back items w s r u) d in
    subst (λ x. outcome nesting_limit (data_calls x) ≡ Ok (layout w)) same
    (outcome-layout nesting_limit (data_calls (tree_of (kept w))) (written_of (tree_of (kept w)))
    (spells_tree (tree_of (kept w))) k.0 ∙ ap (λ b. Ok b) k.1)

pub tree_read_back : TreeIsReadBack
tree_read_back tree r u =
    subst (λ x. IsDocument (folded (layout (written_of tree))) x) (tree-kept (written_of tree) ∙ tree-written tree)
    (read_back (data_calls tree) (written_of tree) (spells_tree tree) r u)

pub document_read_back : DocumentIsReadBack
document_read_back style ms valid deep =
    let fits : depth (d.table (text_order ms)) ≤ nesting_limit = omega (arith, order_deep ms, deep) in
    subst (λ bytes. IsDocument (folded bytes) (d.table (text_order ms))) (same_document (style_of style) ms)
    (document_is_text (style_of style) (style_spells style) (valid_laid ms valid) fits).document

pub same_order_maps : OrderHasSameMaps
same_order_maps ms = same_maps ms

pub same_order_text : OrderHasSameText
same_order_text style ms = same_document (style_of style) ms

pub value_read_back : ValueIsReadBack
value_read_back k x text valid deep =
    subst (λ bytes. IsDocument (folded bytes) (d.table (member k x no_members))) (append-nil (row_text plain k x))
    (laid_text plain plain_spells (a_row tt text (valid_in_row x valid) (then_parts no_parts)) deep).document
