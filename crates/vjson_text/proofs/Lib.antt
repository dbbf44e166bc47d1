pub mod LaidOut
pub mod Memory
