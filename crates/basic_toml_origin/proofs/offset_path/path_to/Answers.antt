use Rattle.std.proofs.Common.{Option, None, Some, IfOk, ◌≡◌, sym, subst, ◌∙◌}
use Rattle.std.specs.Prelude.{option_map}
use Rattle.basic_toml_grammar.specs.Steps.{Path}
use Rattle.basic_toml_read.specs.SectionView.{rows_seen}
use Rattle.basic_toml_origin.specs.Path.{path_of}
use Rattle.basic_toml_origin.proofs.SectionsSearched.{found_by_header, found_by_rows, header_there, not_by_section}
use Rattle.basic_toml_origin.proofs.SectionsSearched.{rows_there}
use Rattle.basic_toml_origin.proofs.offset_path.path_to.Goals as goal

pub returns-in-Some : goal.returns-in-Some
returns-in-Some c =
    let s = c.index-sections-number.result in
    let keys = header_there c.args.query s c.as_slice.result.now (Some c.in-Some.keys) c.as_slice.ensures.value
    c.in-Some.ensures in
    subst (λ (p : Option Path). IfOk c.path_up_to_key.result (λ path. option_map (λ v. path_of v.items) path ≡ p))
    (found_by_header c.args.query c.args.sections.now c.loop-number.number c.in-Some.keys s c.loop-number-test.true
    c.index-sections-number.is keys ∙ c.loop-number.invariant.1)
    c.path_up_to_key.ensures

pub returns-then-branch : goal.returns-then-branch
returns-then-branch c =
    let s = c.index-sections-number.result in
    let keys = header_there c.args.query s c.as_slice.result.now None c.as_slice.ensures.value
    (sym c.in_default.is ∙ c.keys_in_header.ensures) in
    let parents = c.as_slice-parents.result.now in
    let rows = c.as_slice-rows.result.now in
    let rows-are = rows_there s parents rows c.as_slice-parents.ensures.value
    c.as_slice-rows.ensures.value in
    subst (λ (p : Option Path). IfOk c.path_and_steps.result (λ path. option_map (λ v. path_of v.items) path ≡ p))
    (found_by_rows c.args.query c.args.sections.now c.loop-number.number s (rows_seen parents rows)
    c.loop-number.within.items c.push_path_by.new.path.items c.in_ok-push_path_by.field-0 c.loop-number-test.true
    c.index-sections-number.is keys rows-are c.loop-number.invariant.0 c.in_ok-push_path_by.ensures c.if-branch.true
    ∙ c.loop-number.invariant.1)
    c.path_and_steps.ensures

pub loop-number-preserved : goal.loop-number-preserved
loop-number-preserved c =
    let s = c.index-sections-number.result in
    let keys = header_there c.args.query s c.as_slice.result.now None c.as_slice.ensures.value
    (sym c.in_default.is ∙ c.keys_in_header.ensures) in
    let parents = c.as_slice-parents.result.now in
    let rows = c.as_slice-rows.result.now in
    let rows-are = rows_there s parents rows c.as_slice-parents.ensures.value
    c.as_slice-rows.ensures.value in
    let none = not_by_section c.args.query c.args.sections.now c.loop-number.number s (rows_seen parents rows)
    c.loop-number.within.items c.push_path_by.new.path.items c.in_ok-push_path_by.field-0 c.loop-number-test.true
    c.index-sections-number.is keys rows-are c.in_ok-push_path_by.ensures c.if-branch.false in (
      none.0 ∙ c.loop-number.invariant.0,
      sym none.1 ∙ c.loop-number.invariant.1,
    )
