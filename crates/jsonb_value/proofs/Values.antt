-- A value beside its tree.
pub mod Built
pub mod Keys
pub mod Members
pub mod OwnedCopies
pub mod Accessors
