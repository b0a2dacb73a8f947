-- Where a section stops, and which clash is named for it.
pub mod EveryClashIsNamed
pub mod HeaderStopsAreNamed
pub mod PairsAreNamed
pub mod RepeatedRowsAreNamed
pub mod RowsLeaveMarks
pub mod RowsOnHeadersAreNamed
pub mod RowsSeeBelow
pub mod StopsAreNamed
pub mod TrieStopsAreNamed
pub mod WhatIsPutGoesOn
pub mod WhereHeadersStop
pub mod WhereRowsStop
