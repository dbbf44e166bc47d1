-- Texts that are appended piece by piece.
pub mod Appended
pub mod Pieces
