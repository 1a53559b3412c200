pub mod Cells
pub mod Media
pub mod Laws
pub mod Settled
