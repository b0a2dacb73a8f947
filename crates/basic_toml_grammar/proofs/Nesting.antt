-- How deep a text and its tree go: levels, depth, and where the limit is passed.
pub mod DeepOffsetsAreOpened
pub mod DeepStopsAreTooDeep
pub mod DeepStopsAreHoles
pub mod DeepStopsAreOne
pub mod DeepStopsComeFirst
pub mod DepthIsTheHighestLevel
pub mod LevelsAreWithinDepth
pub mod NothingAboveTheLimit
pub mod TreeIsAsDeepAsMentions
pub mod TreeIsNoDeeperThanMentions
pub mod WithinTheLimit
