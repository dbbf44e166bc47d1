-- Strings: their items, their ends, the decoder, keys without quotes.
pub mod BareKeys
pub mod Bodies
pub mod ByteMasks
pub mod Checks
pub mod Decoding
pub mod Ends
pub mod Items
pub mod NearMarks
pub mod Plain
pub mod Rows
pub mod Strict
pub mod Utf8
