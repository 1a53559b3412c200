mod ticks
mod modes
mod calls
mod requests
mod ends
mod events
mod issued
mod delivery
mod accepted
mod steady
mod done
mod goes_on
mod addresses
mod slot31
mod anew
mod known
mod recovers
pub mod Door
