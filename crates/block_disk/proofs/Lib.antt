mod Ends
mod Wire
mod Numbers
mod SavedLemmas
pub mod Door
