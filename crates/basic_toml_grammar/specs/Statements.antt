-- Laws about the definitions of reading. Each is proved as the contract of a function in `laws`.
use Rattle.std.specs.Prelude.{◌≤◌, ◌<◌, false, ◌≡◌, ◌↔◌, ℕ, Bool, true, not, is_some, codes, map, List, [], ◌∷◌, IsUtf8}
use Rattle.std.specs.Prelude.{Some, ◌++◌, length, option_map, reverse}
use Rattle.std.specs.List.{list_any, flat_map}
use Rattle.basic_toml_tokens.specs.Text.{Text, folded}
use Rattle.basic_toml_value.specs.Data.{Data}
use Rattle.basic_toml_value.specs.SameMaps.{SameMaps}
use Rattle.basic_toml_grammar.specs.Sections.{Section}
use Rattle.basic_toml_grammar.specs.Steps.{Path}
use Rattle.basic_toml_grammar.specs.IndexedPath.{located_after, located}
use Rattle.basic_toml_grammar.specs.SectionClash.{any_pair, sections_clash}
use Rattle.basic_toml_grammar.specs.NamedClash.{clash_faults, dotted_faults, NamesClash}
use Rattle.basic_toml_grammar.specs.Tree.{Mention, IsTree}
use Rattle.basic_toml_grammar.specs.Growth.{closed, tree_of}
use Rattle.basic_toml_grammar.specs.Placed.{Placed, path_of, placed, any_placed_clash}
use Rattle.basic_toml_grammar.specs.Marks.{Mark, hits}
use Rattle.basic_toml_grammar.specs.Standing.{take_all, growth_of}
use Rattle.basic_toml_grammar.specs.Entering.{is_keyed, all_keyed, enter_all}
use Rattle.basic_toml_grammar.specs.Trie.{Trie, nothing, put_sections, section_level_in, bare}
use Rattle.basic_toml_grammar.specs.Stops.{Stop, stops, stop_fault, try_enter}
use Rattle.basic_toml_grammar.specs.TrieStops.{try_put_section}
use Rattle.basic_toml_grammar.specs.Depth.{depth}
use Rattle.basic_toml_grammar.specs.Levels.{highest_level}
use Rattle.basic_toml_grammar.specs.Distinct.{is_distinct}
use Rattle.basic_toml_grammar.specs.Document.{has_clash, tree_of_sections, IsDocument}
use Rattle.basic_toml_grammar.specs.Grammar.{IsSectionListBy, IsSectionList}
use Rattle.basic_toml_grammar.specs.Faults.{Fault}
use Rattle.basic_toml_grammar.specs.Viable.{GoesOn, Viable, StopsAt, IsDue}
use Rattle.basic_toml_grammar.specs.NestingFaults.{IsTooDeepAt, openers, before, tree_level}
use Rattle.basic_toml_grammar.specs.DeepStops.{DeepStop}
use Rattle.basic_toml_grammar.specs.Reader.{section_list_of}
use Rattle.basic_toml_grammar.specs.Respelled.{characters, with_returns, has_return, with_byte_order_mark}
use Rattle.basic_toml_grammar.specs.Respelled.{has_byte_order_mark}
use Rattle.basic_toml_grammar.specs.Respaced.{Respaced}
use Rattle.basic_toml_grammar.specs.OldRules.{has_no_delete, WasDocument}

-- the grammar gives a text at most one section list
abbrev pub GrammarIsUnambiguous : Type 0
GrammarIsUnambiguous = (comment : ℕ → Bool) (text : Text) (sections others : List Section)
    → IsSectionListBy comment text sections → IsSectionListBy comment text others → sections ≡ others

-- and it is the one that is read
abbrev pub GrammarIsRead : Type 0
GrammarIsRead = (text : Text) (sections : List Section)
    → IsSectionList text sections ↔ (section_list_of text ≡ Some sections)

-- each row has a key, and so has the header of an array section
abbrev pub GrammarGivesKeys : Type 0
GrammarGivesKeys = (text : Text) (sections : List Section) → IsSectionList text sections → all_keyed sections ≡ true

-- the tree of mentions is the one that the grouping rule gives
abbrev pub TreeIsGrouped : Type 0
TreeIsGrouped = (ms : List Mention) (tree : Data) → IsTree ms tree ↔ (tree ≡ tree_of ms)

-- each table of a tree of sections has distinct keys
abbrev pub KeysAreDistinct : Type 0
KeysAreDistinct = (sections : List Section) → is_distinct (tree_of_sections sections) ≡ true

-- a section list clashes exactly where it allows a clash fault
abbrev pub EveryClashIsNamed : Type 0
EveryClashIsNamed = (sections : List Section) → list_any (λ fault. true) (clash_faults sections) ≡ has_clash sections

-- sections clash by the cuts of their paths as they do by their targets
abbrev pub ClashesAgree : Type 0
ClashesAgree = (sections : List Section) → all_keyed sections ≡ true
    → sections_clash sections ≡ any_placed_clash sections

-- and each section has one path
abbrev pub PathsAgree : Type 0
PathsAgree = (sections : List Section) → map (λ l. l.path) (located sections) ≡ map path_of (placed sections)

-- marks in order fit exactly where no two of them may not stand together
abbrev pub MarksFit : Type 0
MarksFit = (marks : List Mark) → is_some (take_all [] marks) ≡ not (any_pair hits marks)

-- a text without U+007F keeps the document that it had by the old rules
abbrev pub OldDocumentsStand : Type 0
OldDocumentsStand = (text : Text) (tree : Data) → has_no_delete text ≡ true → WasDocument text tree
    → IsDocument text tree

-- what a text means does not depend on the offsets of its characters
abbrev pub OffsetsMeanNothing : Type 0
OffsetsMeanNothing = (text other : Text) (tree : Data) → characters text ≡ characters other
    → IsDocument text tree ↔ IsDocument other tree

-- so CR LF for each LF of a text without CR leaves its document
abbrev pub ReturnsMeanNothing : Type 0
ReturnsMeanNothing = (bytes : List ℕ) (tree : Data) → IsUtf8 bytes → has_return bytes ≡ false
    → IsDocument (folded bytes) tree ↔ IsDocument (folded (with_returns bytes)) tree

-- and so does one U+FEFF in front of a text that begins with none
abbrev pub ByteOrderMarkMeansNothing : Type 0
ByteOrderMarkMeansNothing = (bytes : List ℕ) (tree : Data) → has_byte_order_mark bytes ≡ false
    → IsDocument (folded bytes) tree ↔ IsDocument (folded (with_byte_order_mark bytes)) tree

-- and so do blanks, comments and empty lines that come or go
abbrev pub RespacedMeansNothing : Type 0
RespacedMeansNothing = (text other : Text) (tree : Data) → Respaced text other
    → IsDocument text tree ↔ IsDocument other tree

-- no level of a list without clashes passes the depth of its tree, so what has a document fits the limit
abbrev pub LevelsAreWithinDepth : Type 0
LevelsAreWithinDepth = (text : Text) (sections : List Section) → IsSectionList text sections
    → has_clash sections ≡ false
    → highest_level sections ≤ depth (tree_of_sections sections)

-- the fault that a text is due is one
abbrev pub GrammarFaultsAreOne : Type 0
GrammarFaultsAreOne = (start : Text) (end : ℕ) (fault other : Fault) → IsDue start end fault → IsDue start end other
    → fault ≡ other

-- and a text of the grammar has none
abbrev pub GrammarTextsHaveNone : Type 0
GrammarTextsHaveNone = (start : Text) (end : ℕ) (sections : List Section) (fault : Fault)
    → IsSectionList start sections → IsDue start end fault → ⊥

-- where tokens may stand up to an offset, some text of the grammar has the same characters before it
abbrev pub PassedTextIsViable : Type 0
PassedTextIsViable = (start : Text) (end : ℕ) (at : Text) → Viable start end at → GoesOn start at (λ rest. Unit {0})

-- nothing is too deep where fewer characters that lead deeper stand before it than the limit
abbrev pub DeepOffsetsAreOpened : Type 0
DeepOffsetsAreOpened = (limit p : ℕ) (text : Text) → IsTooDeepAt limit text p → limit ≤ openers (before p text)

-- so at a limit of 4 nothing is too deep in `a = !`, which is refused for another fault
abbrev pub ShallowTextIsFree : Type 0
ShallowTextIsFree = (p : ℕ) → IsTooDeepAt 4 (folded (codes "a = !")) p → ⊥

-- what the reader goes by: where it meets a key or a bracket above the limit, that one is too deep
abbrev pub DeepStopsAreTooDeep : Type 0
DeepStopsAreTooDeep = (limit p : ℕ) (bytes : List ℕ) → IsUtf8 bytes → DeepStop limit (folded bytes) p
    → IsTooDeepAt limit (folded bytes) p

-- and where the text is of the grammar, it passes the limit
abbrev pub DeepStopsPassTheLimit : Type 0
DeepStopsPassTheLimit = (limit p : ℕ) (text : Text) (sections : List Section) → IsSectionList text sections
    → DeepStop limit text p → limit < highest_level sections

-- the reader meets one at most
abbrev pub DeepStopsAreOne : Type 0
DeepStopsAreOne = (limit : ℕ) (text : Text) (p q : ℕ) → DeepStop limit text p → DeepStop limit text q → p ≡ q

-- an offset stands in a text, at or before what is left of it
pub record StandsBy (p : ℕ) (text at : Text) : Type 0 where
  pub front : Text
  pub char : ℕ
  pub next : Text
  pub stands : text ≡ front ++ (p, char) ∷ next
  pub between : Text
  pub goes_on : (p, char) ∷ next ≡ between ++ at

-- and no fault of the grammar is due before it: tokens do not stop
abbrev pub DeepStopsComeFirst : Type 0
DeepStopsComeFirst = (limit p : ℕ) (bytes : List ℕ) (at : Text) → IsUtf8 bytes → DeepStop limit (folded bytes) p
    → StopsAt (folded bytes) (length bytes) at → StandsBy p (folded bytes) at

-- the same elements in another order, by exchanging neighbours
pub data Reordered (A : Type 0) : List A → List A → Type 0 where
  same : {xs : List A} → Reordered A xs xs
  kept : {x : A} {xs ys : List A} → Reordered A xs ys → Reordered A (x ∷ xs) (x ∷ ys)
  turned : {x y : A} {xs : List A} → Reordered A (x ∷ y ∷ xs) (y ∷ x ∷ xs)
  and_on : {xs ys zs : List A} → Reordered A xs ys → Reordered A ys zs → Reordered A xs zs

-- whether a list clashes does not depend on the order of its sections, where each keeps its path
abbrev pub OrderIsFree : Type 0
OrderIsFree = (sections others : List Section) → all_keyed sections ≡ true → all_keyed others ≡ true
    → Reordered Placed (placed sections) (placed others)
    → has_clash sections ≡ has_clash others

-- and without array sections each keeps it
abbrev pub PlainOrderIsFree : Type 0
PlainOrderIsFree = (sections others : List Section) → all_keyed sections ≡ true
    → list_any (λ s. s.is_array) sections ≡ false
    → Reordered Section sections others → has_clash sections ≡ has_clash others

-- each section with its indexed path
abbrev pub with_paths : List Section → List (Section × Path)
with_paths sections = map (λ l. (l.section, l.path)) (located sections)

-- either list is refused where the other is, and else their trees have the same maps
pub record MeanTheSame (sections others : List Section) : Type 0 where
  pub clash : has_clash sections ≡ has_clash others
  pub maps : has_clash sections ≡ false → SameMaps (tree_of_sections sections) (tree_of_sections others)

-- sections in another order mean the same, where each keeps its indexed path
abbrev pub ReorderedMeansTheSame : Type 0
ReorderedMeansTheSame = (sections others : List Section) → all_keyed sections ≡ true
    → Reordered (Section × Path) (with_paths sections) (with_paths others)
    → MeanTheSame sections others

-- and in each order where none is an array section
abbrev pub PlainReorderedMeansTheSame : Type 0
PlainReorderedMeansTheSame = (sections others : List Section) → all_keyed sections ≡ true
    → list_any (λ s. s.is_array) sections ≡ false
    → Reordered Section sections others → MeanTheSame sections others

-- trees of the same maps are equally deep
abbrev pub SameMapsAreAsDeep : Type 0
SameMapsAreAsDeep = (tree other : Data) → SameMaps tree other → depth tree ≡ depth other

-- a list is entered exactly where nothing clashes, and gives the tree of its mentions
abbrev pub EnteringAccepts : Type 0
EnteringAccepts = (sections : List Section) → all_keyed sections ≡ true
    → is_some (enter_all sections []) ≡ not (has_clash sections)

abbrev pub EnteringGrows : Type 0
EnteringGrows = (sections : List Section) (marks : List Mark) → enter_all sections [] ≡ Some marks
    → closed (growth_of marks) ≡ tree_of_sections sections

-- sections go into a trie exactly where they are entered, and leave it with the tree of the marks
abbrev pub TrieIsEntering : Type 0
TrieIsEntering = (sections : List Section)
    → option_map bare (put_sections sections nothing) ≡ option_map growth_of (enter_all sections [])

-- and the next section has there the level that it has in the tree
abbrev pub TrieGivesLevels : Type 0
TrieGivesLevels = (earlier : List Section) (s : Section) (t : Trie) → put_sections earlier nothing ≡ Some t
    → section_level_in t s ≡ tree_level (located_after (reverse earlier) s)

-- where no row goes on from a value, what stops a section after those that were entered is named
abbrev pub StopsAreNamed : Type 0
StopsAreNamed = (earlier : List Section) (s : Section) (later : List Section) (marks : List Mark) (stop : Stop)
    → all_keyed earlier ≡ true → is_keyed s ≡ true
    → flat_map (λ s. dotted_faults s.rows) (earlier ++ s ∷ later) ≡ []
    → enter_all earlier [] ≡ Some marks → try_enter s marks ≡ stops stop
    → NamesClash (earlier ++ s ∷ later) (stop_fault s stop)

-- and so is what stops one that is put into a trie
abbrev pub TrieStopsAreNamed : Type 0
TrieStopsAreNamed = (earlier : List Section) (s : Section) (later : List Section) (t : Trie) (stop : Stop)
    → all_keyed earlier ≡ true → is_keyed s ≡ true
    → flat_map (λ s. dotted_faults s.rows) (earlier ++ s ∷ later) ≡ []
    → put_sections earlier nothing ≡ Some t → try_put_section s t ≡ stops stop
    → NamesClash (earlier ++ s ∷ later) (stop_fault s stop)
