use Rattle.std.proofs.Common.{◌≡◌, append_assoc, suc, ◌+◌, ◌-◌, arith}
use Rattle.std.proofs.lemmas.List.{map_push}
use Rattle.basic_toml_plain.proofs.SimpleKeys.{first_plain, others_plain}
use Rattle.basic_toml_plain.specs.Values.{value_pair}
use Rattle.basic_toml_plain.proofs.values.first_plain_entries.Goals as goal

pub into_plain_value-requires : goal.into_plain_value-requires
into_plain_value-requires c = first_plain 0 c.in-Some.row _ (rw c.in-Some.ensures.steps at c.loop.invariant.plain)

pub loop-preserved : goal.loop-preserved
loop-preserved c =
    let next : c.args.count - c.loop.counter ≡ suc (c.args.count - (c.loop.counter + 1)) = omega arith in
    let so_far = rw (next, c.in-Some.ensures.steps) at c.loop.invariant in
    let pushed = c.push_reserved.ensures in record {
      entered = rw (
        pushed.items,
        map_push value_pair,
        append_assoc,
        c.in_ok-key.ensures.ok,
        c.as_str.ensures.value,
        c.in_ok-value.ensures,
      ) so_far.entered;
      left = so_far.left;
      within = omega arith;
      plain = others_plain 0 c.in-Some.row _ so_far.plain;
      room = omega arith;
    }
