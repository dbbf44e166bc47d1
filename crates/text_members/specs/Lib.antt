pub mod Bytes
pub mod Fingerprints
pub mod MemberStarts
pub mod Members
pub mod OpenMembers
pub mod Slots
