-- The order of values.
pub mod ByContent
