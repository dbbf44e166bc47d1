pub mod Entries
pub mod Results
