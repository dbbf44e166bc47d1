pub mod Appending
pub mod Order
pub mod Outcomes
pub mod SortKeys
pub mod Values
