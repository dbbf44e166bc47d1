pub mod BytesRead
pub mod LinesAgain
