use Rattle.std.proofs.Common.{◌++◌, ◌∷◌, [], Ok, rules}
use Rattle.basic_toml_plain.proofs.WhatIsLeft.{nothing_left}
use Rattle.basic_toml_grow.specs.declared.crossed.KeyTree.{out-KeyTree}
use Rattle.basic_toml_read.specs.SectionView.{header_texts}
use Rattle.basic_toml_grow.proofs.KeyTreeGrows.{met_here, rolled_below, row_on}
use Rattle.basic_toml_grow.proofs.crossed.+follow.Goals as goal

pub returns-in-Some : goal.returns-in-Some
returns-in-Some t c =
    met_here c.args.tree.now c.in-Some.end c.in-Some.is (header_texts c.args.parents.now) c.args.last.now

pub returns-in_ok-place-in-None : goal.returns-in_ok-place-in-None
returns-in_ok-place-in-None t c =
    let tree = c.args.tree.now in
    let entered = c.in_ok-place-in-None.ensures.entered in
    let stands = rw (rolled_below (out-KeyTree tree).end c.enter.new.self) at c.value_mut.ensures.value in
    rw (nothing_left c.args.parents.now c.in-None.ensures.cases)
    (row_on tree c.value_mut.result.now c.args.last.now c.enter.new.self c.in_ok-place-in-None.place entered
    (λ u made. search rules) stands c.end_here.new.tree c.in_default.is [] c.args.start (Ok tt) c.end_here.ensures)

pub returns-in_ok-place-in-Some-split_first : goal.returns-in_ok-place-in-Some-split_first
returns-in_ok-place-in-Some-split_first t c =
    let tree = c.args.tree.now in
    let place = c.in_ok-place-in-Some-split_first in
    let new = c.enter-in-Some-split_first.new.self in
    let stands = rw (rolled_below (out-KeyTree tree).end new) at c.value_mut-there.ensures.value in
    rw (c.in-Some-split_first.ensures.cases.0, ← c.as_str.ensures.value)
    (row_on tree c.value_mut-there.result.now c.as_str.result.now new place.place place.ensures.entered
    (λ u made. search rules) stands c.follow.new.tree c.in_default.is
    (header_texts c.in-Some-split_first.rest.now ++ c.args.last.now ∷ []) c.args.start c.follow.result
    c.follow.ensures)
