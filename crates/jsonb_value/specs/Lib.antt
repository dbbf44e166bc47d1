pub mod View
pub mod Order
