-- The sink for a sort key: what is open, bytes that are written, members, and an object that ends.
pub mod KeyMembers
pub mod KeyObjects
pub mod KeySinks
pub mod OpenKeys
