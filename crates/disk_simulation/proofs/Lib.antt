mod events
mod others
mod together
mod joined
mod honest
mod anew
mod phases
mod link
mod task_files
pub mod Door
