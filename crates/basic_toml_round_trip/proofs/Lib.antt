-- A written value is laid out: rows and then parts
pub mod IntegersAreReadBack
pub mod LaidOut
pub mod SectionsOfTable
pub mod SpelledIsRecorded
pub mod SupportedStandsInRows
pub mod SupportedIsLaidOut
pub mod LaidOutIsSupported
pub mod KeptHasTheTree
-- Its text is in the grammar
pub mod CharactersInFront
pub mod CharactersOfLayout
pub mod QuotedIsAString
pub mod KeysAreInTheGrammar
pub mod HeadersAreInTheGrammar
pub mod WordsAreValues
pub mod FloatsAreNoIntegers
pub mod FloatsAreWords
pub mod ValuesAreInTheGrammar
pub mod QuotedIsUtf8
pub mod ValuesAreUtf8
pub mod SpelledValues
-- And so is a value for people, on several lines
pub mod LinesAreAString
pub mod LinesAreUtf8
pub mod ElementLines
pub mod PrettyValues
-- And the text of a table
pub mod CharactersOfTables
pub mod RowsAreInTheGrammar
pub mod RowsMakeHeadersDue
pub mod LayoutIsInTheGrammar
pub mod GrammarHasNoByteOrderMark
pub mod LayoutIsUtf8
-- Its sections do not clash, and mean its tree
pub mod RowsDoNotClash
pub mod StepsKeepSectionsApart
pub mod PlacesDoNotClash
pub mod StepsGroupMentions
pub mod PlacesMeanTheTree
pub mod PartsCountAside
pub mod KeysLeadToPlaces
pub mod SectionsStandAtTheirPlaces
pub mod SectionsMeanTheTree
-- So it is read back
pub mod WrittenIsReadBack
pub mod ValidIsLaidOut
pub mod LawsHold
pub mod WorkedRoundTrip
