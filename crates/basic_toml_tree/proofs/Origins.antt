-- Where what stands in the tree comes from: what a section list brings, by paths.
pub mod SectionsPlaceOrigins
pub mod RowsAreNodes
