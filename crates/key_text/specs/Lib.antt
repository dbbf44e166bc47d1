pub mod Counts
pub mod NextParts
pub mod Writes
