pub mod Texts
pub mod Numbers
pub mod Wholes
pub mod Signs
pub mod FirstBytes
pub mod Exact
pub mod Integers
pub mod Decimals
