-- What keys with their values end as, where a `&mut` to one of the values is returned.
use Rattle.std.specs.Prelude.{ℕ, List}
use Rattle.std.specs.Borrow.{Lends, Fml, RattleType, MutBor}
use Rattle.basic_toml_value.specs.Growth.{with_value}
use Rattle.basic_toml_value.specs.contracts.pairs.Pairs.{the_row}

-- once the borrow r ends, the key at the position has the last value written through r
abbrev pub lends_value : (V : RattleType) → MutBor (List (List ℕ × V.Denot)) → ℕ → MutBor V.Denot → Fml
lends_value V s position r = Lends (the_row V) V s r (with_value s.now position)
