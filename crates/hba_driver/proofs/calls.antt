-- Calls: `Driver::submit`, `Driver::tick`, `Driver::with_mode` and the functions that they call.
pub mod EffectLemmas
pub mod RequestLemmas
pub mod MaskLemmas
pub mod ScanLemmas
pub mod SpanLemmas
pub mod SightLemmas
pub mod SubmitLemmas
pub mod RestLemmas
