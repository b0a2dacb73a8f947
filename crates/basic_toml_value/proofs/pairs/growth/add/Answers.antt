use Rattle.std.proofs.Common.{refl}
use Rattle.basic_toml_value.specs.Entries.{seen}
use Rattle.basic_toml_value.proofs.KeysSeen.{entered_last, value_last}
use Rattle.basic_toml_value.proofs.pairs.growth.add.Goals as goal

pub returns-clause-entered : goal.returns-clause-entered
returns-clause-entered g c =
    let last = entered_last c.args.pairs.now.items (seen c.args.pairs.now.items)
    (record { key = c.in_ok-key.key; value = c.args.value }) c.args.key.now c.args.value refl c.requires.gap.absent
    c.in_ok-key.ensures.ok refl in
    rw (
      c.push_reserved.ensures.items,
      c.in_ok-make_room.ensures.items,
      c.len-position.ensures,
      c.args.pairs.now.ok.0,
    ) last

pub returns-clause-stands : goal.returns-clause-stands
returns-clause-stands g c =
    rw (
      c.push_reserved.ensures.items,
      c.in_ok-make_room.ensures.items,
      c.len-position.ensures,
      c.args.pairs.now.ok.0,
    ) (value_last c.args.pairs.now.items (record { key = c.in_ok-key.key; value = c.args.value }))
