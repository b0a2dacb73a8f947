pub mod AnswerIsDue
