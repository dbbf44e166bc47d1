-- Arrays and objects: what is made of them, and where their keys are.
pub mod Built
pub mod KeyOffsets
pub mod LongerEncodings
pub mod Members
pub mod SecondSlots
