-- The byte ranges of a `JsonAst` and its parts.
pub mod Located
pub mod Views
