pub mod Bits
pub mod Port
pub mod RegisterMap
pub mod Calls
pub mod Saved
