-- The lemmas of this crate that proofs of other crates use. What else stands under proofs/ may change at any time, and is
-- not seen from outside.
pub use Rattle.pm_registers.proofs.BitLemmas.{bits_where_fits}
pub use Rattle.pm_registers.proofs.RegisterLemmas.{either}
pub use Rattle.pm_registers.proofs.LawLemmas.{summary_agrees}
pub use Rattle.pm_registers.proofs.ShownLemmas.{keeps_sound, shows_inserted, shows_removed, shows_written}
pub use Rattle.pm_registers.proofs.ShownLemmas.{sound_set, write_devices, write_sound}
