pub mod AnswersAreMade
pub mod DocumentIsRead
pub mod KeysJoined
pub mod PlacesAreFound
pub mod ValueIsTold
