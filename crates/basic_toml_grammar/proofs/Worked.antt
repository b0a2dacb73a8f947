-- Texts and lists that are computed from the definitions.
pub mod WorkedChanges
pub mod WorkedDocuments
pub mod WorkedGrammar
pub mod WorkedHoles
pub mod WorkedNesting
pub mod WorkedNodes
pub mod WorkedNumbers
pub mod WorkedSpacing
pub mod WorkedViable
pub mod WorkedWrongReadings
