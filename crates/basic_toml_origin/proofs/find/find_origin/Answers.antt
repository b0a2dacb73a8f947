use Rattle.std.proofs.Common.{Some, length, ap, sym, ◌∙◌}
use Rattle.std.proofs.lemmas.List.{length-map}
use Rattle.basic_toml_origin.specs.declared.origin.Origin.{Origin}
use Rattle.basic_toml_origin.specs.Path.{path_of, step_of}
use Rattle.basic_toml_origin.proofs.SectionsTell.{begun, fits, found, on}
use Rattle.basic_toml_origin.proofs.find.find_origin.Goals as goal

pub loop-section-init : goal.loop-section-init
loop-section-init c =
    begun c.args.end c.args.sections.now (path_of c.args.path.now) c.in_ok-counts.counts.items (length c.args.path.now)
    (sym (length-map c.args.path.now step_of)) c.in_ok-counts.ensures

pub returns-then-is_whole : goal.returns-then-is_whole
returns-then-is_whole c =
    ap (λ (o : Origin). Some o) c.by_header.ensures
    ∙ found c.args.end c.args.sections.now (path_of c.args.path.now) c.loop-section.section-index c.loop-section.row
    c.loop-section.way c.loop-section.counts.items c.section-item.result c.enter-met.result c.loop-section.invariant
    c.loop-section-test.true c.section-item.is (sym c.ends_up_to.ensures ∙ c.if-not-ends_up_to.false)
    c.enter-met.ensures.met
    (sym c.is_whole.ensures ∙ c.if-is_whole.true)

pub by_rows-requires : goal.by_rows-requires
by_rows-requires c =
    fits c.args.end c.args.sections.now (path_of c.args.path.now) c.loop-section.section-index c.loop-section.row
    c.loop-section.way c.loop-section.counts.items c.section-item.result c.enter-met.result c.loop-section.invariant
    c.loop-section-test.true c.section-item.is (sym c.ends_up_to.ensures ∙ c.if-not-ends_up_to.false)
    c.enter-met.ensures.met

pub loop-section-preserved : goal.loop-section-preserved
loop-section-preserved c =
    on c.args.end c.args.sections.now (path_of c.args.path.now) c.loop-section.section-index c.loop-section.row
    c.loop-section.way c.loop-section.counts.items c.section-item.result c.enter-met.result c.loop-section.invariant
    c.loop-section-test.true c.section-item.is (sym c.ends_up_to.ensures ∙ c.if-not-ends_up_to.false)
    c.enter-met.ensures.met
    c.by_rows.result c.by_way.result c.or-row.result c.or-way.result c.enter-met.new.counts.items
    (sym c.is_whole.ensures ∙ c.if-is_whole.false) c.by_rows.ensures c.by_way.ensures c.enter-met.ensures.counts
    c.or-row.ensures c.or-way.ensures
