pub mod Offsets
pub mod Fixed
pub mod Bits
pub mod Lines
pub mod Laws
pub mod Link
pub mod LinkLaws
pub mod Saved
