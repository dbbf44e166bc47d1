-- Arrays and objects, and the containers that are open.
pub mod JoinedParts
