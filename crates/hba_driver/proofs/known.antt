-- Known devices, and their requests: `devices_are_known`, `requests_stay_with_their_device`; AsksLemmas serves
-- `commands_are_meant` and `none_is_stale` of `pm_world`.
pub mod IdentityLemmas
pub mod KnownLemmas
pub mod AwaitLemmas
pub mod ActLemmas
pub mod FreshLemmas
pub mod PushedLemmas
pub mod KnownRuns
pub mod QueuedLemmas
pub mod AsksLemmas
