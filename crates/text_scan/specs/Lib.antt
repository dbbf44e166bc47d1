pub mod Answer
pub mod QuotedString
pub mod ScannedNumber
pub mod ExactRead
pub mod ShortInteger
pub mod StrictFront
pub mod StrictString
pub mod StringError
