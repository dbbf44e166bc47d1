pub mod VerbatimScalar
pub mod EncodedNumber
