-- The order of trees is total, and the bounds of what is compared.
pub mod Bounds
