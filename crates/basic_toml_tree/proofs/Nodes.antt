-- The nodes of a tree: where they stand, and what they are by the section list.
pub mod NodesInOrder
pub mod NodesStand
pub mod NodesCome
pub mod MadeNodes
pub mod RowNodesTold
pub mod PlacesTold
pub mod Lines
pub mod OuterStands
pub mod OuterTold
pub mod KeysLead
pub mod KeysTold
pub mod OneSection
pub mod NodesAnchored
pub mod EntryNodes
