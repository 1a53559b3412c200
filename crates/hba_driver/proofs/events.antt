-- Sound hosts, and events: `hosts_stay_sound`, `turns_are_events`.
pub mod DrivenLemmas
pub mod EventLemmas
pub mod OpenLemmas
pub mod SoundLemmas
pub mod TurnLemmas
