-- Units: fields `live_on`, `lived_on`.
pub mod Units
