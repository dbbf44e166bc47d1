-- The contents of strings: one list of items, one meaning, or a fault.
pub mod Exclusion
pub mod Meaning
pub mod PlainRuns
pub mod PlainTexts
pub mod Encoding
pub mod Units
pub mod Writing
