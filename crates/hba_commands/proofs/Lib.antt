mod AgreeLemmas
mod BackLemmas
mod HeaderLemmas
mod ProperLemmas
mod PutLemmas
mod RequestLemmas
pub mod Door
