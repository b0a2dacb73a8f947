use Rattle.std.proofs.Common.{ℕ, List, Option, unwrap_or, ap, ◌∙◌}
use Rattle.std.specs.Prelude.{slice_get, Vec}
use Rattle.std.specs.declared.alloc.Global.{Global}
use Rattle.std.proofs.lemmas.Option.{unwrap_or-slice_get}
use Rattle.basic_toml_origin.specs.Path.{path_of}
use Rattle.basic_toml_origin.proofs.ElementsCounted.{ended, on, past}
use Rattle.basic_toml_origin.proofs.indexed_path.elements_at.Goals as goal
use Rattle.basic_toml_origin.proofs.indexed_path.elements_at.Goals.{then-section, else-section}

pub loop-section-preserved : goal.loop-section-preserved
loop-section-preserved c =
    elim c.if-section.branch [
      | then-section w ↦
          on c.args.sections.now (path_of c.args.path.now) c.loop-section.section-index c.loop-section.counts.items
          c.if-section.counts.items c.section-item.result c.loop-section.invariant c.loop-section-test.true
          c.section-item.is (ap (λ (v : Vec ℕ Global). v.items) w.counts-is ∙ w.enter.ensures.counts)
      | else-section w ↦
          past c.args.sections.now (path_of c.args.path.now) c.loop-section.section-index c.loop-section.counts.items
          c.if-section.counts.items c.section-item.result c.loop-section.invariant c.loop-section-test.true
          c.section-item.is w.if-section.false (ap (λ (v : Vec ℕ Global). v.items) w.counts-is)
    ]

pub returns : goal.returns
returns c =
    c.unwrap_or.ensures ∙ ap (λ (o : Option ℕ). unwrap_or o 0) (c.copied.ensures ∙ c.first.ensures.value)
    ∙ ap (λ (counts : List ℕ). unwrap_or (slice_get counts 0) 0) c.deref.ensures.value
    ∙ unwrap_or-slice_get c.loop-section.counts.items 0 0
    ∙ ended c.args.sections.now (path_of c.args.path.now) c.loop-section.section-index c.loop-section.counts.items
    c.loop-section.invariant c.loop-section-test.false
