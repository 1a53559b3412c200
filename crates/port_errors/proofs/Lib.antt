mod ErrorsLemmas
mod SavedLemmas
pub mod Door
