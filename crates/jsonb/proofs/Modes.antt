-- What the modes have of one another, and of RFC 8259.
pub mod LeafByLeaf
pub mod JsonIsExtendedJson
pub mod ExtendedIsExtendedJson
pub mod ExactValues
pub mod JsonTexts
pub mod JsonAndStandard
