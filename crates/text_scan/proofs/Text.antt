-- Whitespace and comments.
pub mod Whitespace
pub mod Comments
