pub mod KeyEnds
pub mod Settings
