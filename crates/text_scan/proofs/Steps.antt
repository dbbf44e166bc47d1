-- Small steps that all layers take.
pub mod Modes
pub mod Tests
