pub mod AnswerIsDue
pub mod RunEnds
