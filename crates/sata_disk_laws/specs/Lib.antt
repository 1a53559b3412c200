pub mod Calls
pub mod Laws
pub mod Told
pub mod Asides
pub mod Once
pub mod Errors
pub mod Stores
pub mod Awaited
