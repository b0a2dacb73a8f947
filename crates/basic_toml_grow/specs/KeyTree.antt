-- Where the values of rows begin, by their paths, and how a row goes on from them.
use Rattle.std.specs.Prelude.{◌≡◌, ◌⊎◌, ⊤, ℕ, List, [], ◌∷◌, Option, Some, None, Result, Ok, Err}
use Rattle.std.specs.Option.{option_or}
use Rattle.basic_toml_value.specs.Pairs.{value_at}
use Rattle.basic_toml_grammar.specs.Sections.{KeyTexts}
use Rattle.basic_toml_grow.specs.declared.crossed.KeyTree.{KeyTree, fold-KeyTree, roll-KeyTree}
use Rattle.basic_toml_grow.specs.declared.crossed.KeyTree.TheOpen.{KeyTree-F}
use Rattle.basic_toml_grow.specs.declared.crossed.Crossed.{Crossed}
use Rattle.basic_toml_grow.specs.declared.crossed.Crossed.TheVariants.{Memory, At}

-- where the first value begins that ends at a path
abbrev pub Ends : Type 0
Ends = KeyTexts → Option ℕ

abbrev pub ends_below : Option Ends → Ends
ends_below None path = None
ends_below (Some ends) path = ends path

abbrev pub ends_from : Option ℕ → List (List ℕ × Ends) → Ends
ends_from end below [] = end
ends_from end below (k ∷ path) = ends_below (value_at below k) path

-- one level, the parts seen already
abbrev pub key_tree_step : KeyTree-F Ends → Ends
key_tree_step t = ends_from t.end t.below

abbrev pub ends_of : KeyTree → Ends
ends_of = fold-KeyTree Ends key_tree_step

-- no row is followed yet
abbrev pub no_key_tree : KeyTree
no_key_tree = roll-KeyTree (record { end = None; below = [] })

-- Where the value begins that a path goes on from: of those on its way, the one with the fewest keys.
abbrev pub value_on : Ends → KeyTexts → Option ℕ
value_on ends [] = None
value_on ends (k ∷ path) = option_or (ends []) (value_on (λ p. ends (k ∷ p)) path)

-- A row with this path and start goes on from no value, and its own is remembered, after those of before.
pub record Follows (before after : Ends) (path : KeyTexts) (start : ℕ) : Type 0 where
  pub free : value_on before path ≡ None
  pub kept : (p : KeyTexts) (s : ℕ) → before p ≡ Some s → after p ≡ Some s
  pub stands : (s : ℕ) × (after path ≡ Some s)
  pub told : (p : KeyTexts) (s : ℕ) → after p ≡ Some s → (before p ≡ Some s) ⊎ ((p ≡ path) × (s ≡ start))

-- one more row is followed, or goes on from the value that begins there
abbrev pub FollowsTo : KeyTree → KeyTexts → ℕ → KeyTree → Result (Unit {0}) Crossed → Type 0
FollowsTo before path start after (Ok _) = Follows (ends_of before) (ends_of after) path start
FollowsTo before path start after (Err Memory) = ⊤
FollowsTo before path start after (Err (At at)) = value_on (ends_of before) path ≡ Some at
