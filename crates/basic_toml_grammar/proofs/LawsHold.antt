-- The laws, each as its function states it.
use Rattle.std.proofs.Common.{not, ap, ◌∙◌, sym}
use Rattle.std.specs.Prelude.{◌||◌}
use Rattle.basic_toml_grammar.specs.RowClash.{has_row_clash}
use Rattle.basic_toml_grammar.specs.Statements.{GrammarIsUnambiguous, TreeIsGrouped, KeysAreDistinct, ClashesAgree}
use Rattle.basic_toml_grammar.specs.Statements.{PathsAgree, MarksFit, EveryClashIsNamed, GrammarIsRead}
use Rattle.basic_toml_grammar.specs.Statements.{GrammarGivesKeys, LevelsAreWithinDepth, DeepOffsetsAreOpened}
use Rattle.basic_toml_grammar.specs.Statements.{ShallowTextIsFree, OldDocumentsStand, OrderIsFree, PlainOrderIsFree}
use Rattle.basic_toml_grammar.specs.Statements.{EnteringAccepts, EnteringGrows, TrieIsEntering, TrieGivesLevels}
use Rattle.basic_toml_grammar.specs.Statements.{StopsAreNamed, TrieStopsAreNamed}
use Rattle.basic_toml_grammar.proofs.Grammar.GrammarIsUnambiguous.{one_section_list}
use Rattle.basic_toml_grammar.proofs.Trees.TreeIsGrouped.{tree_is_grouped}
use Rattle.basic_toml_grammar.proofs.Trees.KeysAreDistinct.{keys_are_distinct}
use Rattle.basic_toml_grammar.proofs.Naming.EveryClashIsNamed.{every_clash_named}
use Rattle.basic_toml_grammar.proofs.Clash.PathsAgree.{paths_agree}
use Rattle.basic_toml_grammar.proofs.Clash.MarksFit.{marks_fit}
use Rattle.basic_toml_grammar.proofs.Clash.ClashesAgree.{clashes_agree}
use Rattle.basic_toml_grammar.proofs.Nesting.LevelsAreWithinDepth.{levels_within}
use Rattle.basic_toml_grammar.proofs.Nesting.DeepOffsetsAreOpened.{deep_offsets_are_opened}
use Rattle.basic_toml_grammar.proofs.Worked.WorkedNesting.{shallow_text}
use Rattle.basic_toml_grammar.proofs.SameMeaning.OldDocumentsStand.{list_keyed, old_documents}
use Rattle.basic_toml_grammar.proofs.Grammar.ReaderIsComplete.{grammar_is_read}
use Rattle.basic_toml_grammar.proofs.SameMeaning.OrderIsFree.{order_free, plain_order_free}
use Rattle.basic_toml_grammar.proofs.Clash.EnteringAccepts.{accepts}
use Rattle.basic_toml_grammar.proofs.Trees.EnteringGrows.{tree_entered}
use Rattle.basic_toml_grammar.proofs.Tries.SectionsInATrie.{bare_is_growth}
use Rattle.basic_toml_grammar.proofs.Tries.StepsArePaths.{level_is_tree_level}
use Rattle.basic_toml_grammar.proofs.Naming.StopsAreNamed.{stops_named}
use Rattle.basic_toml_grammar.proofs.Naming.TrieStopsAreNamed.{trie_stops_named}

pub unambiguous : GrammarIsUnambiguous
unambiguous comment text sections others x y = one_section_list x y

pub grouped_tree : TreeIsGrouped
grouped_tree ms tree = tree_is_grouped ms tree

pub distinct : KeysAreDistinct
distinct sections = keys_are_distinct sections

pub named : EveryClashIsNamed
named sections = every_clash_named sections

pub agree : ClashesAgree
agree sections k = clashes_agree sections k

pub read : GrammarIsRead
read text sections = grammar_is_read text sections

pub keyed : GrammarGivesKeys
keyed text sections g = list_keyed g

pub paths : PathsAgree
paths sections = paths_agree sections

pub fit : MarksFit
fit marks = marks_fit marks

pub within : LevelsAreWithinDepth
within text sections g e = levels_within sections g e

pub opened : DeepOffsetsAreOpened × ShallowTextIsFree
opened = ((λ limit p text d. deep_offsets_are_opened limit p text d), (λ p d. shallow_text p d))

pub old : OldDocumentsStand
old text tree h d = old_documents text tree h d

pub order : OrderIsFree
order sections others k l r = order_free sections others k l r

pub plain_order : PlainOrderIsFree
plain_order sections others k e r = plain_order_free sections others k e r

pub entering : EnteringAccepts
entering sections k = accepts sections k ∙ ap (λ b. not (has_row_clash sections || b)) (sym (clashes_agree sections k))

pub growing : EnteringGrows
growing sections marks e = tree_entered sections marks e

pub as_trie : TrieIsEntering
as_trie sections = bare_is_growth sections

pub levels_there : TrieGivesLevels
levels_there earlier s t e = level_is_tree_level earlier s t e

pub stopping : StopsAreNamed
stopping earlier s later marks stop k y d e f = stops_named earlier s later marks stop k y d e f

pub trie_stopping : TrieStopsAreNamed
trie_stopping earlier s later t stop k y d e f = trie_stops_named earlier s later t stop k y d e f
