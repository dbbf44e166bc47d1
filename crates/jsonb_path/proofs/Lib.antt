pub mod Encoding
pub mod KeyEncoding
pub mod PartIndex
pub mod PlainKeys
pub mod PartsReadBack
