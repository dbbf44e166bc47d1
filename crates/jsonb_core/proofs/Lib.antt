pub mod Appending
pub mod ErrorCodes
pub mod Numbers
pub mod Order
pub mod SortKeys
pub mod Strings
pub mod Trees
