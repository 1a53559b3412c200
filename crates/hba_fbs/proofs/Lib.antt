mod RegisterLemmas
mod SlotLemmas
mod FillLemmas
mod AnyLemmas
mod AimLemmas
mod IssueLemmas
mod WriteLemmas
mod DataLemmas
mod PostLemmas
mod TakeLemmas
mod CoreLemmas
mod OfferLemmas
mod SendLemmas
pub mod Door
mod ReasonLemmas
mod SavedLemmas
mod ChooseLemmas
