-- Whole documents.
pub mod Agreement
pub mod Bounds
pub mod Markers
pub mod Parts
pub mod Encodings
pub mod Straight
