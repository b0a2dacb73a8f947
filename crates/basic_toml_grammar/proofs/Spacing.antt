-- Texts that differ in blanks, comments and empty lines, and lists that differ in the order of rows, mean the same.
pub mod GapsSkipped
pub mod FrontsAlike
pub mod ValuesAlike
pub mod LinesAlike
pub mod TokensAlike
