-- The laws of writing, as they are stated.
use Rattle.std.proofs.Common.{◌≡◌, List, codes, Some}
use Rattle.std.proofs.lemmas.List.Elements.{All-contains}
use Rattle.basic_toml_numbers.specs.Numbers.{float_of}
use Rattle.basic_toml_layout.specs.Written.{float}
use Rattle.basic_toml_emit.specs.Items.{Item, a_scalar}
use Rattle.basic_toml_value.specs.Nesting.{nesting_limit}
use Rattle.basic_toml_write.specs.Recordable.{IsRecordable}
use Rattle.basic_toml_write.specs.Statements.{SpellsAtMostOne, SpelledComesInOrder, DataIsSpelled, DataIsKept}
use Rattle.basic_toml_write.specs.Statements.{KeptIsTree, KeptHasSameText, KeptHasSameDepth, RecordsNoIntegerAsFloat}
use Rattle.basic_toml_write.proofs.SpellingIsUnique.{spelled_once}
use Rattle.basic_toml_write.proofs.SpelledListIsInOrder.{ordered}
use Rattle.basic_toml_write.proofs.TreesAreKept.{spells_tree, tree-written, written-tree_kept}
use Rattle.basic_toml_write.proofs.KeptHasSameLayout.{layout-kept, depth-kept}

pub spells_at_most_one : (is : List Item) → SpellsAtMostOne is
spells_at_most_one is v w p q = spelled_once p q

pub spelled_comes_in_order : SpelledComesInOrder
spelled_comes_in_order is w s = ordered nesting_limit s

pub data_is_spelled : DataIsSpelled
data_is_spelled = spells_tree

pub data_is_kept : DataIsKept
data_is_kept = tree-written

pub kept_is_tree : KeptIsTree
kept_is_tree w supported = written-tree_kept nesting_limit w supported

pub kept_has_same_text : KeptHasSameText
kept_has_same_text = layout-kept

pub kept_has_same_depth : KeptHasSameDepth
kept_has_same_depth = depth-kept

-- `12` is no float
pub no_integer_as_float : RecordsNoIntegerAsFloat
no_integer_as_float s is recorded holds =
    let own : float_of (codes "12") ≡ Some (codes "12") =
    All-contains IsRecordable is (a_scalar (float (codes "12"))) recorded.recordable holds in
    absurd (cc)
