-- The pairs of a table as they stand in memory, and what is seen of them.
use Rattle.std.specs.Prelude.{ℕ, List, map}
use Rattle.basic_toml_value.specs.Text.{text_bytes}
use Rattle.basic_toml_value.specs.declared.pairs.Pair.{Pair}

-- a pair as contracts see it
abbrev pub pair_seen : {V : Type 0} → Pair V → List ℕ × V
pair_seen pair = (text_bytes pair.key, pair.value)

abbrev pub seen : {V : Type 0} → List (Pair V) → List (List ℕ × V)
seen entries = map pair_seen entries

abbrev pub texts_of : {V : Type 0} → List (Pair V) → List (List ℕ)
texts_of entries = map (λ pair. text_bytes pair.key) entries
