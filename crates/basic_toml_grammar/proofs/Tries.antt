-- Sections that are put into a trie: what stands at its nodes, and the tree that it makes.
pub mod ChangesByPath
pub mod MarksInATrie
pub mod NumbersInTurn
pub mod RowsInATrie
pub mod RowsThatOverlapAreRefused
pub mod SectionsInATrie
pub mod StepsArePaths
pub mod StopsByPath
pub mod StopsForgotten
pub mod TrieIsEntering
