-- What comes next to the host: no law of its own.
pub mod ErrorLemmas
pub mod StaleLemmas
