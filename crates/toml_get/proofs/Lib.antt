pub mod AnswersAreDue
pub mod FrontsAreLongest
pub mod RunEnds
pub mod StepsInTurn
pub mod ValuesFit
