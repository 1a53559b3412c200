-- Ports and connections: `ports_keep_to_one`, `connections_follow`.
pub mod EachLemmas
pub mod KeepingLemmas
pub mod UpLemmas
pub mod DownLemmas
pub mod FirmLemmas
pub mod SentLemmas
pub mod FollowLemmas
