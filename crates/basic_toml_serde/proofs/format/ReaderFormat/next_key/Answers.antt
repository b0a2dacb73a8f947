use Rattle.std.proofs.Common.{arith}
use Rattle.std.proofs.lemmas.Grind.{common_steps}
use Rattle.basic_toml_serde.proofs.format.ReaderFormat.next_key.Goals as goal

pub returns : goal.returns
returns g c =
    let walk = c.note_names-2.ensures.0 in (
      c.in-Some.key.now,
      grind (arith, common_steps),
      grind (arith, common_steps),
      rw walk c.in-Some.ensures,
      (c.find-at.ensures.found, c.find-at.ensures.first, c.find-at.ensures.range),
    )
