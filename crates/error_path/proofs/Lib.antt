pub mod Between
pub mod Passing
pub mod Wrong
