pub mod All
pub mod Bytes
