-- Links: field `links`.
pub mod LinkLemmas
pub mod LinksDown
pub mod LinksUp
pub mod LinksPass
