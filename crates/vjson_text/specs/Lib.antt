pub mod Memory
pub mod Texts
