-- Causes of faults: `causes_stay`.
pub mod CauseLemmas
