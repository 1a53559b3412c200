mod BitLemmas
mod LawLemmas
mod LinkLemmas
