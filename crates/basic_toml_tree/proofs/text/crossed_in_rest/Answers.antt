use Rattle.std.proofs.Common.{◌++◌, ap, ◌∙◌}
use Rattle.basic_toml_read.specs.SectionView.{section_of}
use Rattle.basic_toml_tree.proofs.TreeOfText.{rest_goes_on}
use Rattle.basic_toml_tree.proofs.text.crossed_in_rest.Goals as goal

pub loop-section-preserved : goal.loop-section-preserved
loop-section-preserved c = (
  ap (λ t. t.now) c.in_ok-next.ensures.text ∙ c.loop-section.invariant.0,
  c.in_ok-next.ensures.ready,
  c.clear.ensures,
  λ list so_far.
      let rest = c.loop-section.invariant.3 list so_far in
      let read = rw c.if-branch.true at (c.in_ok-next.ensures.read (list ++ rest.later) rest.so_far) in
      rw c.or-found.ensures
      (rest_goes_on (section_of c.next.new.section) rest read c.in_ok-crossed_value.ensures),
)
