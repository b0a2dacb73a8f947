use Rattle.std.proofs.Common.{arith, [], ◌∷◌}
use Rattle.std.proofs.lemmas.List.{length-map, length-append}
use Rattle.std.specs.Box.{with_value}
use Rattle.basic_toml_index.proofs.IndexAfterInsert.{IsIndex-boxed, IsIndex-none, IsIndex-insert, distinct_with}
use Rattle.basic_toml_index.proofs.Index.insert.Goals as goal

pub insert-requires-clause-in_leaves : goal.insert-requires-clause-in_leaves
insert-requires-clause-in_leaves g c =
    rw (c.deref_mut.ensures.value, ← length-map c.in-Some.leaves.value.items (λ leaf. leaf.items))
    (c.requires.gap.place c.in-Some.leaves c.in-Some.is).in_leaves

pub returns-in-Some-clause-ok : goal.returns-in-Some-clause-ok
returns-in-Some-clause-ok g c =
    IsIndex-insert c.insert.result (g.T.Texts.texts c.args.texts.now) c.args.self.now c.in-Some.leaves
    (with_value c.in-Some.leaves c.insert.new.leaves) c.args.gap c.count-count.result c.args.key.now
    c.count-count.ensures
    c.requires.index c.requires.gap c.in-Some.is (rw c.deref_mut.ensures.value at c.insert.ensures.row)
    (rw (length-map c.insert.new.leaves.items (λ leaf. leaf.items)) c.insert.ensures.some) c.insert.ensures.filled

pub returns-in_ok-new-clause-ok : goal.returns-in_ok-new-clause-ok
returns-in_ok-new-clause-ok g c =
    IsIndex-boxed _ c.in_ok-new.field-0
    (distinct_with (g.T.Texts.texts c.args.texts.now) c.args.self.now c.args.gap c.args.key.now c.requires.index
    c.requires.gap) (rw c.in_ok-new.ensures.ok c.in_ok-leaves.ensures)

pub returns-else-count-ge-FEW-clause-ok : goal.returns-else-count-ge-FEW-clause-ok
returns-else-count-ge-FEW-clause-ok g c =
    IsIndex-none _ c.args.self.now.leaves
    (distinct_with (g.T.Texts.texts c.args.texts.now) c.args.self.now c.args.gap c.args.key.now c.requires.index
    c.requires.gap) (omega (
      arith,
      c.count-count.ensures,
      c.if-count-ge-FEW.false,
      length-append (g.T.Texts.texts c.args.texts.now) (c.args.key.now ∷ []),
    )) (λ boxed is. c.in_default.not-Some boxed is)
