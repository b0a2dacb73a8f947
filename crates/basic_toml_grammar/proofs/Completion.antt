-- A text up to a hole goes on to one of the grammar.
pub mod CompletedBytes
pub mod Fillers
pub mod HeadersFollow
pub mod SignsFollow
pub mod TextsCompleted
pub mod TokensFollow
pub mod TokensLead
pub mod TokensPass
pub mod ValuesCompleted
