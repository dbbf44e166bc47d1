pub mod Error
pub mod Number
pub mod View
pub mod Order
pub mod TextParts
