-- What errors say of the text.
pub mod Codes
pub mod Explained
pub mod OfScalars
pub mod OfTexts
