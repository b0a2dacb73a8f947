use Rattle.std.proofs.Common.{◌≡◌, suc, ◌+◌, ◌-◌, ap₂, ◌∙◌, take, arith}
use Rattle.basic_toml_value.specs.Entries.{pair_seen}
use Rattle.basic_toml_value.specs.Text.{text_bytes}
use Rattle.basic_toml_plain.specs.Plain.{key_of}
use Rattle.basic_toml_plain.proofs.WhatIsLeft.{mapped_next}
use Rattle.basic_toml_plain.proofs.SimpleKeys.{others_plain}
use Rattle.basic_toml_grow.specs.Simple.{entry_of}
use Rattle.basic_toml_grow.proofs.simple.entries_of.Goals as goal

pub loop-preserved : goal.loop-preserved
loop-preserved c =
    let first = c.in-Some.ensures.steps in
    let next : c.args.count - c.loop.counter ≡ suc (c.args.count - (c.loop.counter + 1)) =
    omega (arith, c.loop-test.true) in
    let key : text_bytes c.in_ok-key.key ≡ key_of c.in-Some.row = c.in_ok-key.ensures.ok ∙ c.as_str.ensures.value in
    record {
      entered = mapped_next pair_seen (entry_of c.args.section) _ _ _ _ _ _ c.in-Some.row
          (ap₂ (λ n rows. take n rows) next first) c.push_reserved.ensures.items c.loop.invariant.entered
          (ap₂ (λ k v. (k, v)) key c.child_at-value.ensures);
      left = rw (next, first) at c.loop.invariant.left;
      within = grind (arith, first, c.loop.invariant.within, next);
      plain = others_plain 0 c.in-Some.row c.next.new.self (rw first at c.loop.invariant.plain);
      room = omega (arith, c.loop.invariant.room, next, c.push_reserved.ensures.len, c.push_reserved.ensures.capacity);
    }
