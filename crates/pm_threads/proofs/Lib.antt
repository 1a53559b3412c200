mod Fewer
pub mod Ends
pub mod Fits
pub mod Pulls
pub mod Puts
pub mod Replicas
pub mod Zips
pub mod Failures
