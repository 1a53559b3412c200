pub mod Arbiter
pub mod State
pub mod Rules
pub mod Passing
pub mod Orders
pub mod Stamping
pub mod Between
pub mod Saved
