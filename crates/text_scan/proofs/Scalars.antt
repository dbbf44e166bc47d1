-- Values that hold no others, and keys.
pub mod WordLetters
pub mod WordMeaning
