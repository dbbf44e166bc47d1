pub mod DifferentKeys
pub mod Fronts
pub mod MemberStarts
pub mod Objects
pub mod OpenMembers
pub mod Outcomes
pub mod Rows
