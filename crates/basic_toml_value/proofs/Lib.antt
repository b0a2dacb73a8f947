pub mod TextIsUtf8
pub mod LengthsDecide
pub mod PairsAreCopied
pub mod SeenPairs
pub mod Sizes
pub mod KeysSeen
pub mod KeysChanged
