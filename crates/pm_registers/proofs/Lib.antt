mod BitLemmas
mod RegisterLemmas
mod LawLemmas
mod ShownLemmas
mod SavedLemmas
pub mod Door
