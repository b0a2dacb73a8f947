use Rattle.std.proofs.Common.{◌≡◌, ℕ, [], ◌∷◌, ◌++◌, true, map}
use Rattle.basic_toml_plain.specs.PlainTables.{are_parts, parts}
use Rattle.basic_toml_grow.specs.Simple.{table_of}
use Rattle.basic_toml_grow.proofs.sections.block_tables.Given as goal

-- The tables made, and then those of the sections left, are all of them. The rows left are those of the sections left.
abbrev pub invariant-loop-own : goal.invariant-loop-own
invariant-loop-own l = record {
  made : l.earlier.items ++ map table_of (parts l.rows (l.own-iterator.rest.items ++ l.latest ∷ []))
      ≡ l.initial.earlier.items
      ++ map table_of (parts l.initial.rows (l.initial.own-iterator.rest.items ++ l.latest ∷ []));
  left : (at : ℕ) × (are_parts at l.rows (l.own-iterator.rest.items ++ l.latest ∷ []) ≡ true);
}
