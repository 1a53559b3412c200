pub mod Aside
pub mod Numbers
pub mod Engine
pub mod Laws
pub mod Saved
