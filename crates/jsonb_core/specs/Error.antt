-- Errors and their texts.
pub mod CodeView
pub mod ErrorText
pub mod ErrorView
