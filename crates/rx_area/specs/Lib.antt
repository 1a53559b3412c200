pub mod Area
pub mod Lent
