mod ArbiterLemmas
mod Holds
mod Ports
mod Gone
mod Sound
mod GiveLemmas
mod Lent
mod PutBack
mod UpSteps
mod PassingLemmas
mod Removals
mod OrderLemmas
mod StampLemmas
mod TurnLemmas
mod Forwarding
mod SavedLemmas
pub mod Door
