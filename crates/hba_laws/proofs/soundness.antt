-- What holds of each host: `stays_sound`.
pub mod WriteLemmas
pub mod KeptLemmas
pub mod SoundLemmas
