-- PRD tables: `tables_stay`.
pub mod AreaLemmas
pub mod TableLemmas
