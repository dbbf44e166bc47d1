-- Numbers, their casts and their arithmetic.
pub mod Arithmetic
