pub mod Handler
pub mod Faults
pub mod Placed
