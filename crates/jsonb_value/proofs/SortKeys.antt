-- The order of sort keys as bytes is the order of values.
pub mod Parts
pub mod Sizes
