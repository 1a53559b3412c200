pub mod Statuses
pub mod Text
