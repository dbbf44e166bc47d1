pub mod Containers
pub mod Numbers
pub mod Offsets
pub mod Scalars
pub mod Steps
pub mod Strings
pub mod Text
