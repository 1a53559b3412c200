pub mod Beginnings
pub mod OrderLaws
