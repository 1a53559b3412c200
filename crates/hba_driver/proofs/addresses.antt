-- PM Port of what goes out: `frames_are_addressed`.
pub mod AddressLemmas
