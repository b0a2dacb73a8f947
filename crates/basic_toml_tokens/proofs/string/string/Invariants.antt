use Rattle.std.proofs.Common.{◌≡◌, ◌<◌, ◌-◌, false, length, get_or}
use Rattle.basic_toml_tokens.specs.Strings.{is_plain}
use Rattle.basic_toml_tokens.specs.Quote.{kind_of}
use Rattle.basic_toml_tokens.proofs.PiecesSoFar.{SoFar}
use Rattle.basic_toml_tokens.proofs.string.string.Given as goal

-- pieces lead to an offset where no plain character stands
abbrev pub invariant-loop-next : goal.invariant-loop-next
invariant-loop-next l = SoFar (kind_of l.quote) l.text l.body l.kept l.at l.copy
    × (l.at < length l.text → is_plain l.quote.delimiter (get_or l.text l.at 0) ≡ false)

abbrev pub decreases-loop-next : goal.decreases-loop-next
decreases-loop-next l = length l.text - l.at
