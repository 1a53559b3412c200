-- The port goes on: `port_goes_on`.
pub mod ReadLemmas
pub mod StopLemmas
pub mod PageLemmas
pub mod GoingLemmas
