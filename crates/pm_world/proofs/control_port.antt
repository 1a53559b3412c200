-- The control port: `one_order_at_a_time`, `ports_go_on`.
pub mod ListLemmas
pub mod SaidLemmas
pub mod LineLemmas
pub mod GoingLemmas
