-- Data of writes: `writes_are_gathered`.
pub mod SentLemmas
pub mod GatherLemmas
