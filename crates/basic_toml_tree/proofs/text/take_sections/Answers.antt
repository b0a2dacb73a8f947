use Rattle.std.proofs.Common.{◌++◌, ◌∷◌, [], ap, ◌∙◌, inl}
use Rattle.basic_toml_read.specs.SectionView.{section_of}
use Rattle.basic_toml_read.proofs.ListIsAnswered.{stop_answered}
use Rattle.basic_toml_tree.proofs.SectionsGrown.{more_entered, none_entered}
use Rattle.basic_toml_tree.proofs.TreeOfText.{text_is, ends_well, so_far_on, wants_memory, clashes}
use Rattle.basic_toml_tree.proofs.text.take_sections.Goals as goal

pub loop-stop-init : goal.loop-stop-init
loop-stop-init c = (
  record {
    list = [];
    text = c.requires.reader.text;
    ready = c.requires.reader.ready;
    so_far = c.requires.reader.none;
    have = none_entered c.args.tree.now.headers c.args.tree.now.root c.requires.headers c.requires.root;
  },
  c.requires.section,
)

-- the end of the text, and where it stops to be one
pub returns-in-Ok-false : goal.returns-in-Ok-false
returns-in-Ok-false c = ends_well c.loop-stop.invariant.0 c.in-Ok-false.ensures c.in-Ok-false.field-0-test

pub returns-in-Err : goal.returns-in-Err
returns-in-Err c =
    let grows = c.loop-stop.invariant.0 in
    let text = ap (λ t. t.now) c.in-Err.ensures.text ∙ grows.text in
    inl (stop_answered _ _ c.explain.result c.utf8.text
    (rw text at (c.in-Err.ensures.read grows.list grows.so_far)) c.explain.ensures)

pub returns-in-Err-enter_section : goal.returns-in-Err-enter_section
returns-in-Err-enter_section c =
    let grows = c.loop-stop.invariant.0 in
    let kept = c.in-Err-enter_section.ensures in
    clashes grows c.in-Ok-true.ensures c.in-Ok-true.field-0-test _ _ kept.named c.enter_section.new.section kept.at
    kept.header (c.clash_error.ensures grows.list (rw (grows.text, ← c.place-place.ensures) at grows.so_far))

-- it goes in
pub loop-stop-preserved : goal.loop-stop-preserved
loop-stop-preserved c =
    let grows = c.loop-stop.invariant.0 in
    let read = c.in-Ok-true.ensures in
    let new = c.in_default.ensures in (
      record {
        list = grows.list ++ section_of c.next.new.section ∷ [];
        text = text_is grows read;
        ready = read.ready;
        so_far = so_far_on grows read c.in-Ok-true.field-0-test;
        have = more_entered grows.have _ _ _ _ c.len-number.ensures
            (record { is_in = new.entered; grows = new.origins; marks = new.marks })
            (rw (new.at, new.header) at c.in_ok-push.ensures.ok);
      },
      record { header = c.in_ok-push.ensures.taken; rows = new.taken },
    )

pub returns-in_err-push : goal.returns-in_err-push
returns-in_err-push c =
    wants_memory c.loop-stop.invariant.0 c.in-Ok-true.ensures c.in-Ok-true.field-0-test _ _ c.from_residual.ensures.1
