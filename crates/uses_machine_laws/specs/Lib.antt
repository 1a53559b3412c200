pub mod Kept
pub mod Risen
pub mod Falls
