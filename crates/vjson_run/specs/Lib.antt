pub mod Answers
pub mod Chosen
pub mod InOrder
pub mod Keys
pub mod Lines
pub mod Output
pub mod Runs
pub mod Trouble
