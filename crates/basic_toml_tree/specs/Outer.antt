-- The table around what stands at a path, and where it begins, as the nodes below it keep that.
use Rattle.std.specs.Prelude.{◌≡◌, ◌||◌, ℕ, Bool, true, false, if◌then◌else◌, [], ◌∷◌, Option, Some, None}
use Rattle.std.specs.Option.{IfSome}
use Rattle.basic_toml_grammar.specs.Steps.{key, number, Path}
use Rattle.basic_toml_grammar.specs.Standing.{Standing, table, array}
use Rattle.basic_toml_tree.specs.declared.node.Node.{Node}
use Rattle.basic_toml_tree.specs.Origin.{is_made}
use Rattle.basic_toml_grow.specs.Origins.{Origin}

-- no key is in it
abbrev pub no_keys : Path → Bool
no_keys [] = true
no_keys (key k ∷ p) = false
no_keys (number n ∷ p) = no_keys p

-- the path of the nearest table around what stands at a path: what comes before its last key
abbrev pub around : Path → Path
around [] = []
around (s ∷ p) = if no_keys p then [] else s ∷ around p

-- headers made what stands there
abbrev pub stands_made : Option Standing → Bool
stands_made (Some (table p n d)) = p || n
stands_made (Some (array n)) = true
stands_made _ = false

-- Where a table begins, as the nodes below it keep it: nothing for the root and where headers made it, else the offset
-- of its origin.
pub record KeepsStart (p : Path) (there : Option Standing) (origin : Option Origin) (kept : Option ℕ) : Type 0 where
  pub root : p ≡ [] → kept ≡ None
  pub made : stands_made there ≡ true → kept ≡ None
  pub row : IfSome origin (λ o. o.made ≡ false → kept ≡ Some o.start)

-- what a node keeps of its own beginning for those below it
abbrev pub kept_below : Node → Option ℕ
kept_below node = if is_made node then None else Some node.start
