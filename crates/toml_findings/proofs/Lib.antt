pub mod FoundParts
pub mod ReadingFinds
pub mod OtherKeysTold
