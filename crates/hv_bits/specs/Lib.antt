pub mod Writing
pub mod FieldTables
