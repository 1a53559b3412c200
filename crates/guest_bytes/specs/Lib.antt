pub mod Guest
pub mod Flat
