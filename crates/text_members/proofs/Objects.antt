-- The members of open objects: their order and their bytes.
pub mod Ascending
pub mod Closing
pub mod InFront
pub mod Inserted
pub mod Pieces
pub mod Slots
pub mod Prefixes
pub mod Ranks
pub mod Settled
