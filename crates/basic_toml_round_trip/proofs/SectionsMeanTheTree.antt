-- The section list of a laid-out table does not clash, and means the table.
use Rattle.std.proofs.Common.{◌≡◌, ◌≤◌, true, false, ◌||◌, not, [], ◌∷◌, ◌++◌, Some, None, refl, ap, sym, ◌∙◌}
use Rattle.std.specs.Prelude.{nat_le, if◌then◌else◌}
use Rattle.std.proofs.lemmas.Bool.{le-leb}
use Rattle.basic_toml_value.specs.Data as d
use Rattle.basic_toml_value.specs.Data.{Data, Members}
use Rattle.basic_toml_grammar.specs.Sections.{Rows, no_rows, row}
use Rattle.basic_toml_grammar.specs.RowClash.{has_row_clash}
use Rattle.basic_toml_grammar.specs.SectionClash.{any_pair, sections_clash}
use Rattle.basic_toml_grammar.specs.Growth.{tree_of}
use Rattle.basic_toml_grammar.specs.Mentions.{row_mentions}
use Rattle.basic_toml_grammar.specs.Placed.{placed_clash, any_placed_clash}
use Rattle.basic_toml_grammar.specs.Entering.{all_keyed}
use Rattle.basic_toml_value.specs.Nesting.{nesting_limit}
use Rattle.basic_toml_grammar.specs.Depth.{depth}
use Rattle.basic_toml_grammar.specs.Document.{tree_of_sections, document_of}
use Rattle.basic_toml_grammar.proofs.Clash.ClashesAgree.{clashes_agree}
use Rattle.basic_toml_grammar.proofs.Trees.EnteringGrows.{placed_mentions, mentions_are}
use Rattle.basic_toml_round_trip.proofs.LaidOut.{Laid}
use Rattle.basic_toml_round_trip.proofs.SectionsOfTable.{rows, inner_placed, sections, placed_here}
use Rattle.basic_toml_round_trip.proofs.RowsDoNotClash.{sections_quiet}
use Rattle.basic_toml_round_trip.proofs.PlacesDoNotClash.{inner_apart, root_apart}
use Rattle.basic_toml_round_trip.proofs.PlacesMeanTheTree.{root_tree, rootless_tree}
use Rattle.basic_toml_round_trip.proofs.StepsGroupMentions.{table_here}
use Rattle.basic_toml_round_trip.proofs.SectionsStandAtTheirPlaces.{root_offsets, sections_stand}

no_clash : {ms : Members} (laid : Laid [] ms) → any_placed_clash (sections laid) ≡ false
no_clash laid = ap (any_pair placed_clash) (sections_stand laid) ∙ go (rows laid) refl
  where
    go : (rs : Rows) → rows laid ≡ rs → any_pair placed_clash (root_offsets rs (inner_placed laid)) ≡ false
    go no_rows e = inner_apart laid
    go (row keys at v rs) e =
        ap (λ rs. any_pair placed_clash (placed_here None rs ∷ inner_placed laid)) (sym e) ∙ root_apart laid

means : {ms : Members} (laid : Laid [] ms) → tree_of_sections (sections laid) ≡ d.table ms
means {ms = ms} laid =
    ap tree_of (mentions_are [] (sections laid) ∙ ap placed_mentions (sections_stand laid)) ∙ go (rows laid) refl
  where
    go : (rs : Rows) → rows laid ≡ rs → tree_of (placed_mentions (root_offsets rs (inner_placed laid))) ≡ d.table ms
    go no_rows e =
        ap (λ rs. tree_of (row_mentions [] rs ++ placed_mentions (inner_placed laid))) (sym e) ∙ rootless_tree laid
    go (row keys at v rs) e =
        ap (λ rs. tree_of (table_here ∷ (row_mentions [] rs ++ placed_mentions (inner_placed laid)))) (sym e)
        ∙ root_tree laid

pub sections_mean : {ms : Members} (laid : Laid [] ms) → all_keyed (sections laid) ≡ true
    → depth (d.table ms) ≤ nesting_limit
    → document_of (sections laid) ≡ Some (d.table ms)
sections_mean {ms = ms} laid keyed deep =
    let rows_part : has_row_clash (sections laid) ≡ false = sections_quiet laid in
    let sections_part : sections_clash (sections laid) ≡ false = clashes_agree (sections laid) keyed ∙ no_clash laid in
    ap
    (λ t. if (has_row_clash (sections laid) || sections_clash (sections laid)) || not
    (nat_le (depth t) nesting_limit) then None else Some t) (means laid)
    ∙ rw (rows_part, sections_part, le-leb (depth (d.table ms)) nesting_limit deep) refl
