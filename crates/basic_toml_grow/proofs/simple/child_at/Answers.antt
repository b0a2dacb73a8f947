use Rattle.basic_toml_plain.proofs.PlainValues.{array_within, table_within}
use Rattle.basic_toml_grow.proofs.simple.child_at.Goals as goal

pub new-requires : goal.new-requires
new-requires c = array_within c.in-Array.elements 0 (rw c.in-Array.is at c.requires)

pub new-requires-in-Inline : goal.new-requires-in-Inline
new-requires-in-Inline c = table_within c.in-Inline.rows 0 (rw c.in-Inline.is at c.requires)
