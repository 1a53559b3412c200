-- A device that is set aside: `resets_set_aside`.
pub mod ResetAside
pub mod BesideLemmas
pub mod ApartLines
pub mod ApartDriver
pub mod ApartIdle
pub mod ApartTurns
