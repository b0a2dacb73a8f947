-- Where what stands in the tree comes from: what rows and headers bring, by paths.
pub mod OriginsSeen
pub mod RowsPlaceOrigins
pub mod HeadersPlaceOrigins
