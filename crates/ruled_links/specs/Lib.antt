pub mod Calls
pub mod Links
pub mod Lists
pub mod Rule
