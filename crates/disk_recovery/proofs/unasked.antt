-- An absent device: `stays_unasked`.
pub mod UnaskedLemmas
pub mod FaultyLemmas
