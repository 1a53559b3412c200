-- The path of one device: `paths_go_on`.
pub mod KeptLemmas
pub mod PlaceLemmas
pub mod PathLemmas
pub mod RunLemmas
