-- Phases: `devices_are_set_aside`, `disks_are_followed_to_their_errors`, `reports_are_honest_in_each_phase`.
pub mod AsideLemmas
pub mod CalmOn
pub mod FollowedLemmas
pub mod PhaseLemmas
