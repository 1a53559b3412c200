mod Kept
mod Deeds
mod Apart
mod Moves
mod Oldest
pub mod Watched
mod SavedLemmas
pub mod Door
