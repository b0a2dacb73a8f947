-- Wherever the document of a section list has data, a node is foretold.
pub mod PathsReached
pub mod EveryNode
pub mod NodesForetold
