pub mod Edit
pub mod Spots
pub mod Merging
pub mod Insert
