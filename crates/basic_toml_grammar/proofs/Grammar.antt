-- From a text to its section list: the grammar is unambiguous, and is what the reader computes.
pub mod CopiesAgree
pub mod EndChangesNothing
pub mod FrontsOfTexts
pub mod GrammarCarried
pub mod GrammarIsUnambiguous
pub mod ReaderIsComplete
pub mod ReaderIsSound
pub mod RestsAreEnds
pub mod StringsAreRead
pub mod StringsCarried
