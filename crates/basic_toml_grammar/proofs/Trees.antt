-- The tree of what sections mention: grouped by steps, with distinct keys.
pub mod EnteringGrows
pub mod KeysAreDistinct
pub mod MentionsDoNotOverlap
pub mod PeacefulSectionsDoNotOverlap
pub mod TreeIsGrouped
