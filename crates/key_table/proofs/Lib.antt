pub mod Walking
pub mod Writing
pub mod Having
pub mod Splitting
pub mod Searching
pub mod Short
pub mod Unmarked
