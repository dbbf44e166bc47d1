pub mod Repeats
pub mod Shuffles
pub mod EncodedNumbers
