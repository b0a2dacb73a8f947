-- What an iterator over a table has left to give.
use Rattle.std.specs.Prelude.{ℕ, List, drop}
use Rattle.std.specs.Borrow.{Bor}
use Rattle.basic_toml_value.specs.declared.pairs.Iter.{Iter}
use Rattle.basic_toml_value.specs.Entries.{seen}

-- the pairs from the next one on
abbrev pub rest : {V : Type 0} → Iter V → List (List ℕ × V)
rest it = drop it.at (seen it.entries.now)

-- the pair that a key and a value, both borrowed, stand for
abbrev pub pair_of : {V : Type 0} → Bor (List ℕ) × Bor V → List ℕ × V
pair_of p = (p.0.now, p.1.now)
