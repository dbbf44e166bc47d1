-- The order of values.
pub mod Comparing
pub mod FromBound
