-- A host that serves a disk, in one step: no law of its own.
pub mod Brought
pub mod BroughtLemmas
pub mod GivenLemmas
pub mod TookLemmas
pub mod TouchedLemmas
pub mod FrameLemmas
pub mod HostLemmas
pub mod FirstLemmas
