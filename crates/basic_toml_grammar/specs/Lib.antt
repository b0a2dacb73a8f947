-- From a text to its sections
pub mod Sections
pub mod Copies
pub mod Grammar
pub mod Levels
-- From sections to a tree
pub mod Steps
pub mod RowClash
pub mod IndexedPath
pub mod SectionClash
pub mod Tree
pub mod Growth
pub mod Mentions
pub mod Depth
pub mod Distinct
pub mod Document
-- Faults and offsets
pub mod Faults
pub mod NumberFaults
pub mod NumberTokens
pub mod GrammarFaults
pub mod Viable
pub mod NestingFaults
pub mod NamedClash
pub mod Nodes
-- Forms that only proofs go by: skip them
pub mod Reader
pub mod Holes
pub mod DeepStops
pub mod Placed
pub mod Marks
pub mod Standing
pub mod Entering
pub mod Stops
pub mod Trie
pub mod TrieStops
-- What the laws say
pub mod OldRules
pub mod Respelled
pub mod Respaced
pub mod Statements
pub mod RowOrder
