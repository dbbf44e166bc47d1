-- Texts that are appended piece by piece.
pub mod BinaryTexts
pub mod IntervalTexts
pub mod NextParts
