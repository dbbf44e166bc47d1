pub mod Ascii
pub mod Containers
pub mod Document
pub mod VerbatimTexts
pub mod Scalars
pub mod Steps
pub mod Grammars
