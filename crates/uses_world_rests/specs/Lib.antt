pub mod Left
pub mod Over
pub mod Signs
