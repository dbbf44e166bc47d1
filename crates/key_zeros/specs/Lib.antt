pub mod Scan
pub mod ErrorText
pub mod Appending
pub mod Turned
