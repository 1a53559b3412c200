pub mod Sets
pub mod Schedule
pub mod Laws
pub mod Saved
