pub mod Clients
pub mod Commons
