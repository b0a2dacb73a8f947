use Rattle.std.proofs.Common.{◌≡◌, ℕ, ◌++◌, ◌∷◌, [], true, map}
use Rattle.basic_toml_value.specs.View.{view}
use Rattle.basic_toml_plain.specs.PlainTables.{are_parts, parts}
use Rattle.basic_toml_plain.specs.Values.{section_data}
use Rattle.basic_toml_plain.proofs.values.push_tables.Given as goal

-- the tables passed are moved, in order, and the rows of the others are left
abbrev pub invariant-loop-own : goal.invariant-loop-own
invariant-loop-own l = record {
  made : map view l.moved.items
      ++ map (λ t. section_data t.1) (parts l.rows (l.own-iterator.rest.items ++ l.latest ∷ []))
      ≡ map view l.initial.moved.items
      ++ map (λ t. section_data t.1) (parts l.initial.rows (l.initial.own-iterator.rest.items ++ l.latest ∷ []));
  left : (at : ℕ) × (are_parts at l.rows (l.own-iterator.rest.items ++ l.latest ∷ []) ≡ true);
}
