mod AgreeLemmas
mod KeptLemmas
mod MemoryLemmas
mod OverlapLemmas
mod PartsLemmas
mod PlaceLemmas
mod PrdLemmas
mod ScatterLemmas
mod SoundLemmas
mod SpotLemmas
mod WriteLemmas
mod WrittenLemmas
pub mod Door
