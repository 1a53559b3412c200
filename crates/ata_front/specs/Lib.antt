pub mod CommandFis
pub mod Fronts
pub mod Saved
