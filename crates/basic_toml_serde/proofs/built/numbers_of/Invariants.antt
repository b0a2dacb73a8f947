use Rattle.std.proofs.Common.{◌≡◌, pos, take, map}
use Rattle.basic_toml_value.specs.Data.{integer}
use Rattle.basic_toml_value.specs.View.{view}
use Rattle.basic_toml_serde.proofs.built.numbers_of.Given as goal

-- the bytes so far are integers
abbrev pub invariant-loop-octet : goal.invariant-loop-octet
invariant-loop-octet l = map view l.values.items ≡ map (λ n. integer (pos n)) (take l.octet-index l.octets)
