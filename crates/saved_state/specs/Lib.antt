pub mod State
pub mod Bytes
pub mod Parts
