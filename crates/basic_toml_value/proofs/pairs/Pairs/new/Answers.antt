use Rattle.std.proofs.Common.{refl, arith}
use Rattle.basic_toml_value.proofs.pairs.Pairs.new.Goals as goal

pub invariant_of-result : goal.invariant_of-result
invariant_of-result g c = c.none.ensures _ (rw c.new.ensures.items refl)
    (rw c.new.ensures.items (omega arith))
