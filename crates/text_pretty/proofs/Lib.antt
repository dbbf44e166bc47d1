pub mod Lines
pub mod ReadsBack
