use Rattle.std.proofs.Common.{◌≡◌, ◌++◌, List, ℕ}
use Rattle.std.specs.Fmt.{HasWritten, IsPlainFormatter}
use Rattle.basic_toml_error.specs.NodeFaults.{escaped_quotes}
use Rattle.basic_toml_error.proofs.message.QuotedDisplay.fmt.Given as goal

-- what is written, and what is still to come
abbrev pub invariant-loop-c : goal.invariant-loop-c
invariant-loop-c g l =
    IsPlainFormatter l.initial.f → (written : List ℕ)
    × HasWritten g.W.Write.write_str_gives l.initial.f written l.f
    × (written ++ escaped_quotes l.c-iterator.rest.now ≡ escaped_quotes l.self.0.now)
