pub mod Table
pub mod Laws
pub mod Requests
pub mod Saved
