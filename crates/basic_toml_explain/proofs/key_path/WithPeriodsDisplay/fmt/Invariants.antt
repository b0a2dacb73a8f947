use Rattle.std.proofs.Common.{take}
use Rattle.std.specs.Fmt.{HasWritten, IsPlainFormatter}
use Rattle.basic_toml_explain.specs.KeyPath.{with_periods}
use Rattle.basic_toml_explain.proofs.key_path.WithPeriodsDisplay.fmt.Given as goal

-- the keys passed are written
abbrev pub invariant-loop-key : goal.invariant-loop-key
invariant-loop-key g l =
    IsPlainFormatter l.initial.f
    → HasWritten g.W.Write.write_str_gives l.initial.f (with_periods (take l.key-index l.self.0.now)) l.f
