pub mod AnswersAreDue
pub mod RunEnds
