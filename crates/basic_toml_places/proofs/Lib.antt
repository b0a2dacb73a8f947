-- Offsets rise along a text
pub mod OffsetsRise
-- The values of each part of the grammar begin in order
pub mod OffsetsInOrder
pub mod ValuesInOrder
-- A value is found by its offset, and what headers did not make by where it begins
pub mod PathsLead
pub mod ValuesFound
pub mod NodesFound
pub mod LawsHold
pub mod WorkedPlaces
