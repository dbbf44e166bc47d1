-- The texts of whole trees, and the trees of documents.
pub mod DocumentTexts
pub mod DocumentsInRange
pub mod IntegerTexts
pub mod MembersInOrder
pub mod OneText
pub mod RangeTexts
pub mod Ranges
pub mod Runs
pub mod StandardInExtended
pub mod TextsReadBack
