use Rattle.std.proofs.Common.{◌≡◌, true, sym, ◌∙◌}
use Rattle.basic_toml_numbers.specs.Numbers.{is_unsigned_float, without_sign}
use Rattle.basic_toml_numbers.proofs.Canonical.{is_ascii-float, is_canonical-canonical}
use Rattle.basic_toml_numbers.proofs.float.Float.parse.Goals as goal

pub canonical-requires : goal.canonical-requires
canonical-requires c =
    let is : is_unsigned_float (without_sign c.args.text.now) ≡ true =
    rw (← c.as_bytes.ensures.value) (sym c.is_float.ensures ∙ c.if-not-is_float.false) in
    is_ascii-float c.args.text.now is

pub invariant_of-result : goal.invariant_of-result
invariant_of-result c =
    let is : is_unsigned_float (without_sign c.args.text.now) ≡ true =
    rw (← c.as_bytes.ensures.value) (sym c.is_float.ensures ∙ c.if-not-is_float.false) in
    rw c.in_ok-text.ensures (is_canonical-canonical c.args.text.now is)
