-- Values that hold no others, and keys.
pub mod Built
pub mod Contents
pub mod Elements
pub mod ExactNumbers
pub mod FirstBytes
pub mod VerbatimNumbers
pub mod JsonStrings
pub mod Encodings
pub mod Starts
