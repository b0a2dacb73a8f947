pub mod QuotedUpToEscape
pub mod PlainBytes
pub mod ViewsOfValues
pub mod DataIsLaidOut
pub mod PrettyInTurn
pub mod OrderedText
pub mod TextOrderIsKept
