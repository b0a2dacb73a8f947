pub mod WorkedErrorTexts
pub mod EscapedQuotes
pub mod WrittenTexts
pub mod TextsGoOn
pub mod OriginsFound
pub mod OriginsOfNodes
