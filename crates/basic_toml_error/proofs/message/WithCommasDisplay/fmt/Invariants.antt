use Rattle.std.proofs.Common.{map, take}
use Rattle.std.specs.Fmt.{HasWritten, IsPlainFormatter}
use Rattle.std.specs.List.{flat_map}
use Rattle.basic_toml_error.specs.NodeFaults.{behind_comma}
use Rattle.basic_toml_error.proofs.message.WithCommasDisplay.fmt.Given as goal

-- the names passed are written
abbrev pub invariant-loop-name : goal.invariant-loop-name
invariant-loop-name g l =
    IsPlainFormatter l.initial.f
    → HasWritten g.W.Write.write_str_gives l.initial.f
    (flat_map behind_comma (map (λ name. name.now) (take l.name-index l.self.0.now))) l.f
