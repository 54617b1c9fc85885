pub mod Bytes
pub mod Counting
pub mod Encoding
pub mod Registers
pub mod Variables
pub mod VariableStates
