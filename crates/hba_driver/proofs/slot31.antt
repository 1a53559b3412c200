-- Slot 31 and scans: `orders_take_turns`, `scans_clear`.
pub mod ControlLemmas
pub mod SentLemmas
pub mod Push31Lemmas
pub mod Slot31Lemmas
pub mod ScansLemmas
pub mod Tick31Lemmas
pub mod Took31Lemmas
pub mod Turn31Lemmas
pub mod ScansTurns
