-- Paths, what sections say of them, and when two of them clash.
pub mod ClashIsCollision
pub mod ClashesAgree
pub mod EarlierRowsAreNotMet
pub mod EnteringAccepts
pub mod LatestElementsWereAdded
pub mod MarksAreWhatIsSaid
pub mod MarksFit
pub mod MarksTellPlaces
pub mod PathsAgree
pub mod SectionMarksFit
pub mod SectionsLeaveMarks
pub mod StepTestsDecide
pub mod WalkTakesMarks
pub mod WhatSectionsSay
pub mod WhatStandsWasMarked
