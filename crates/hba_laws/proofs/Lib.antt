mod soundness
mod cores
mod prd_tables
mod histories
mod isolation
mod completed
mod placed
mod gathered
mod faults
pub mod Door
