-- A device that recovers: `devices_are_apart`, `none_is_armed`.
pub mod ApartArmed
pub mod ApartFiles
pub mod ApartPlans
pub mod ApartPushes
pub mod ApartViews
pub mod UnsoughtLemmas
pub mod ApartActs
pub mod ApartTakes
pub mod ApartTicks
