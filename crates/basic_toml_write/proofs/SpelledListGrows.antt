-- What spells a table grows something: it opens that.
use Rattle.std.proofs.Common.{◌≡◌, ℕ, Bool, true, false, List, [], refl}
use Rattle.std.specs.Prelude.{not, ◌||◌}
use Rattle.basic_toml_layout.specs.Written.{Written, is_table}
use Rattle.basic_toml_emit.specs.Items.{Item}
use Rattle.basic_toml_emit.specs.Open.{fresh}
use Rattle.basic_toml_emit.specs.Growth.{items_grow}
use Rattle.basic_toml_write.specs.Shapes.{is_unsupported}
use Rattle.basic_toml_write.specs.Spelling.{IsValue, one_scalar, none, an_array, a_table, Spells, root, root_some}

value_grows : (is : List Item) (w : Written) → IsValue is w [] → is_table w ≡ true → items_grow fresh is ≡ true
value_grows _ _ one_scalar e = absurd (cc)
value_grows _ _ none e = absurd (cc)
value_grows _ _ (an_array es) e = absurd (cc)
value_grows _ _ (a_table es) e = refl

table_grows : (is : List Item) (w : Written) → Spells is w → is_table w ≡ true → items_grow fresh is ≡ true
table_grows is w (root v) e = value_grows is w v e
table_grows _ w (root_some {is = is} s) e = table_grows is w s e

or_neither : (a b : Bool) → (not a || b) ≡ false → a ≡ true
or_neither true b e = refl
or_neither false b e = absurd (cc)

-- a value without an unsupported shape is a table
pub spelled_grow : (limit : ℕ) (is : List Item) (w : Written) → Spells is w → is_unsupported limit w ≡ false
    → items_grow fresh is ≡ true
spelled_grow limit is w s supported = table_grows is w s (or_neither (is_table w) _ supported)
