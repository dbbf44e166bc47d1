-- Arrays and objects, and the containers that are open.
pub mod Frames
pub mod MembersShuffled
pub mod OpenOnLists
pub mod Sources
pub mod Values
