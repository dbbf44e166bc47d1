-- Numbers: arithmetic, casts and their texts.
pub mod DecimalTexts
pub mod Fractions
pub mod InRange
pub mod StandardTexts
pub mod Integers
pub mod IntegersReadBack
pub mod Narrowed
pub mod Nearest
pub mod Pointed
pub mod Quotients
pub mod Rows
pub mod Scaling
pub mod Texts
