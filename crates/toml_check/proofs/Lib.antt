pub mod VerdictsAreSaid
pub mod FilesInTurn
