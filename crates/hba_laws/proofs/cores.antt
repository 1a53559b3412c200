-- Each event of a host is one of its core: `core_isolated`, clause `hosts`.
pub mod CoreHostLemmas
