-- The order of sort keys as bytes is the order of values.
pub mod Comparing
pub mod Counts
pub mod Digits
pub mod Fixed
pub mod Kinds
pub mod Numbers
pub mod Pairs
pub mod Texts
pub mod Trees
pub mod Zeros
