-- Small steps that all layers take.
pub mod Advancing
pub mod Cursors
pub mod Ends
pub mod Failures
pub mod Outcomes
