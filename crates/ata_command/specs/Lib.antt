pub mod Opcodes
pub mod Modes
pub mod Asks
pub mod Courses
pub mod Trims
pub mod Saved
