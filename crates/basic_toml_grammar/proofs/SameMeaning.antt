-- Texts and section lists that are written another way, or in another order, and mean the same.
pub mod ClashesAreOldClashes
pub mod OffsetsForgotten
pub mod OldDocumentsStand
pub mod OrderIsFree
pub mod ReorderedMeanTheSame
pub mod RespelledMeanTheSame
pub mod RowsMeanTheSame
pub mod SameChars
pub mod SameMapsReordered
pub mod SameSections
pub mod SameTrees
