pub mod PlainFields
pub mod PlainReading
